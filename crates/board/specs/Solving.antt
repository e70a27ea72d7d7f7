-- What solving a board answers, and its law.
use Rattle.std.specs.Prelude.{◌≡◌, ℕ, ◌-◌, ◌<◌, ◌≤◌, true, false, ◌⊎◌, List, [], Ok, Err, Result}
use Rattle.wire.specs.declared.refusal.Cause.TheVariants as cause
use Rattle.wire.specs.declared.refusal.Refusal.{Refusal}
use Rattle.wire.specs.Refusals.{refused, no_memory}
use Rattle.board.specs.declared.table.Row.{Row}
use Rattle.board.specs.Arena.{Arena}
use Rattle.board.specs.Lists.{Member}
use Rattle.board.specs.Game.{forced}
use Rattle.board.specs.Ranks.{moves, won, ranked, Orchestrator, Forces}
use Rattle.board.specs.Table.{Accepted, rank_in, choice_in, solution}

-- the answer and the rows that are left
abbrev pub Solved : Arena → Result (Unit {0}) Refusal → List Row → Type 0
Solved b (Ok x) rows = (ranked b 0 ≡ true) × (rows ≡ solution b)
Solved b (Err e) rows = (rows ≡ []) × (((ranked b 0 ≡ false) × (e ≡ refused cause.NoOrchestrator 0)) ⊎ ((ranked b 0 ≡ true) × (e ≡ no_memory)))

-- the rows of exactly the positions that are won at all, each with the least number of steps
-- and the lowest playable choice whose outcomes are all won within one step less
pub record RowsLaw (b : Arena) (rows : List Row) : Type 0 where
  pub every : (p m : ℕ) → won b m p ≡ true → (r : Row) × Member r rows × (r.position ≡ p)
  pub reached : (r : Row) → Member r rows → won b r.rank r.position ≡ true
  pub least : (r : Row) (m : ℕ) → Member r rows → won b m r.position ≡ true → r.rank ≤ m
  pub lowest : (r : Row) → Member r rows → 0 < r.rank → (forced (moves b) (won b (r.rank - 1)) r.position r.choice ≡ true) × ((d : ℕ) → d < r.choice → forced (moves b) (won b (r.rank - 1)) r.position d ≡ false)

-- the rows force success within their rank of the start, no orchestrator at all does so sooner, and they are accepted;
-- 23 is answered where no orchestrator forces success within any number of steps, and memory is wanting only where one does
abbrev pub SolveLaw : Arena → Result (Unit {0}) Refusal → List Row → Type 0
SolveLaw b (Ok x) rows = Forces b (λ h. choice_in rows h.0) (rank_in rows 0) × ((o : Orchestrator) (m : ℕ) → Forces b o m → rank_in rows 0 ≤ m) × Accepted b rows × RowsLaw b rows
SolveLaw b (Err e) rows = ((e ≡ refused cause.NoOrchestrator 0) × ((o : Orchestrator) (m : ℕ) → Forces b o m → ⊥)) ⊎ ((e ≡ no_memory) × ((o : Orchestrator) × (m : ℕ) × Forces b o m))
