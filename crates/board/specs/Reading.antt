-- What the bytes of a chart file say, number by number.
use Rattle.std.specs.Prelude.{◌≡◌, ℕ, ◌+◌, ◌-◌, cond, ◌⊎◌, List, [], ◌∷◌, ◌++◌, Ok, Err, Result, ◌==◌}
use Rattle.wire.specs.declared.refusal.Refusal.{Refusal}
use Rattle.wire.specs.Refusals.{no_memory}
use Rattle.wire.specs.Fields.{field}
use Rattle.wire.specs.Reading.{and_then, steps, answer, left}
use Rattle.wire.specs.Readers.{ended}
use Rattle.board.specs.Spot.{Seen, Done, Open}

-- what a reader that may want memory answers, by what the bytes say
abbrev pub Reads : {A X : Type 0} → (A → X) → Result A Refusal → Result X Refusal → Type 0
Reads view (Ok a) there = there ≡ Ok (view a)
Reads view (Err e) there = (there ≡ Err e) ⊎ (e ≡ no_memory)

-- and where it then stands; after a refusal it may stand anywhere
abbrev pub ReadsTo : {A X : Type 0} → (A → X) → Result A Refusal → ℕ → Result (X × ℕ) Refusal → Type 0
ReadsTo view r at there = Reads (λ a. (view a, at)) r there

-- what a reader that asks for no memory answers, by what the bytes say
abbrev pub Says : {A X : Type 0} → (A → X) → Result A Refusal → Result X Refusal → Type 0
Says view (Ok a) there = there ≡ Ok (view a)
Says view (Err e) there = there ≡ Err e

abbrev pub SaysTo : {A X : Type 0} → (A → X) → Result A Refusal → ℕ → Result (X × ℕ) Refusal → Type 0
SaysTo view r at there = Says (λ a. (view a, at)) r there

-- one more of several things: where it ends, and the things so far
abbrev pub one_more : {X : Type 0} → (ℕ → Result (X × ℕ) Refusal) → ℕ → ℕ × List X → Result (ℕ × List X) Refusal
one_more read i s = and_then (read s.0) (λ p. Ok (p.1, s.1 ++ (p.0 ∷ [])))

-- m things, and where they end
abbrev pub several : {X : Type 0} → (ℕ → Result (X × ℕ) Refusal) → ℕ → ℕ → Result (List X × ℕ) Refusal
several read m at = and_then (steps (one_more read) m 0 (at, [])) (λ s. Ok (s.1, s.0))

-- one more outcome, of n positions: where it ends, the least that the next may be, and the outcomes so far
abbrev pub outcome_of : List ℕ → ℕ → ℕ → ℕ × ℕ × List ℕ → Result (ℕ × ℕ × List ℕ) Refusal
outcome_of bs n i s = and_then (field bs s.0 s.1 (n - 1)) (λ p. Ok (p.1, p.0 + 1, s.2 ++ (p.0 ∷ [])))

-- the outcomes of a choice
abbrev pub choice_of : List ℕ → ℕ → ℕ → Result (List ℕ × ℕ) Refusal
choice_of bs n at =
    and_then (field bs at 0 8) (λ m.
    and_then (steps (outcome_of bs n) m.0 0 (m.1, 0, [])) (λ s.
    Ok (s.2, s.0)))

-- k choices
abbrev pub choices_of : List ℕ → ℕ → ℕ → ℕ → Result (List (List ℕ) × ℕ) Refusal
choices_of bs n k at = several (choice_of bs n) k at

-- a choice of a done position has no outcomes
abbrev pub no_outcome_of : List ℕ → ℕ → ℕ → Result ℕ Refusal
no_outcome_of bs i at = and_then (field bs at 0 0) (λ p. Ok p.1)

abbrev pub no_outcomes_of : List ℕ → ℕ → ℕ → Result (Unit {0} × ℕ) Refusal
no_outcomes_of bs k at = and_then (steps (no_outcome_of bs) k 0 at) (λ to. Ok (tt, to))

-- a position: whether it is done, and its k choices
abbrev pub spot_of : List ℕ → ℕ → ℕ → ℕ → Result (Seen × ℕ) Refusal
spot_of bs n k at =
    and_then (field bs at 0 1) (λ d.
    cond (d.0 == 1)
    (and_then (no_outcomes_of bs k d.1) (λ s. Ok (Done, s.1)))
    (and_then (choices_of bs n k d.1) (λ s. Ok (Open s.0, s.1))))

-- each position
abbrev pub spots_of : List ℕ → ℕ → ℕ → ℕ → Result (List Seen × ℕ) Refusal
spots_of bs n k at = several (spot_of bs n k) n at

-- the numbers of positions and choices, and the spots
pub record Sheet : Type 0 where
  pub positions : ℕ
  pub choices : ℕ
  pub spots : List Seen

abbrev pub zero_sheet : Sheet
zero_sheet = record { positions = 1; choices = 1; spots = [] }

-- the whole file
abbrev pub sheet_of : List ℕ → Result Sheet Refusal
sheet_of bs =
    and_then (field bs 0 1 256) (λ n.
    and_then (field bs n.1 1 8) (λ k.
    and_then (spots_of bs n.0 k.0 k.1) (λ s.
    and_then (ended bs s.1) (λ _.
    Ok (record { positions = n.0; choices = k.0; spots = s.0 })))))

-- the answer and the sheet that is left are those of the bytes, or memory was wanting
abbrev pub ReadsSheet : List ℕ → Result (Unit {0}) Refusal → Sheet → Type 0
ReadsSheet bs r x = ((r ≡ answer (sheet_of bs)) × (x ≡ left zero_sheet (sheet_of bs))) ⊎ ((r ≡ Err no_memory) × (x ≡ zero_sheet))
