use Rattle.std.proofs.Common.{◌≡◌, ℕ, ◌%◌, ◌^◌, ◌<◌, ◌≤◌, false, eqb, sym, ap, ◌∙◌, arith, pow_mono, rules}
use native.Mathlib.Nat.{div-eq_of_lt}
use Rattle.std.proofs.lemmas.Bool.{le-ltb}
use Rattle.service.specs.Tables.{has_state}
use Rattle.service.proofs.sets.has_state.Goals as goal

-- a set of 16 bits has no state past 15
past_set : (set q : ℕ) → set < 2 ^ 16 → 16 ≤ q → has_state set q ≡ false
past_set set q h l = ap (λ n. eqb (n % 2) 1) (div-eq_of_lt (omega (arith, pow_mono l)))

pub returns-else-from-lt-MAX_STATES : goal.returns-else-from-lt-MAX_STATES
returns-else-from-lt-MAX_STATES c =
    let small : c.args.set < 2 ^ 16 = search rules in
    let past : 16 ≤ c.args.state = omega (arith, c.from.ensures) in
    le-ltb c.from.result 16 c.if-from-lt-MAX_STATES.false ∙ sym (past_set c.args.set c.args.state small past)
