-- The rules of truth and of numbers on small examples.
use Rattle.std.specs.Prelude.{◌≡◌, true, false, [], ◌∷◌}
use Rattle.wire.specs.Number.{NumberExamples}
use Rattle.ltlf.specs.Formula.{letter, neg, next, weak_next, eventually, always, until, release}
use Rattle.ltlf.specs.Truth.{satisfied}

-- letter 0 is a and letter 1 is b
pub record RuleExamples : Type 0 where
  -- the empty trace: G a and ! a hold, F a does not
  pub empty_always : satisfied (always (letter 0)) [] ≡ true
  pub empty_not : satisfied (neg (letter 0)) [] ≡ true
  pub empty_eventually : satisfied (eventually (letter 0)) [] ≡ false
  -- the trace a: X a fails, N a holds
  pub a_next : satisfied (next (letter 0)) (0 ∷ []) ≡ false
  pub a_weak_next : satisfied (weak_next (letter 0)) (0 ∷ []) ≡ true
  -- the trace ab: U a b holds, R b a fails
  pub ab_until : satisfied (until (letter 0) (letter 1)) (0 ∷ (1 ∷ [])) ≡ true
  pub ab_release : satisfied (release (letter 1) (letter 0)) (0 ∷ (1 ∷ [])) ≡ false
  -- FF FF 03 is 65,535; 80 80 04 and 80 00 are no numbers
  pub numbers : NumberExamples
