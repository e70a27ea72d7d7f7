-- The law of composition.
use Rattle.std.specs.Prelude.{◌≡◌, ℕ, ◌<◌, ◌≤◌, Bool, true, ◌↔◌, List, Decides}
use Rattle.service.specs.Tables.{has_state}
use Rattle.board.specs.Lists.{Member}
use Rattle.board.specs.ChartFile.{Rising}
use Rattle.board.specs.Arena.{Arena}
use Rattle.board.specs.Game as game
use Rattle.board.specs.Ranks.{won, ranked, rank}
use Rattle.board.specs.declared.table.Row.{Row}
use Rattle.board.specs.Table.{Accepted, rank_in, choice_in}
use Rattle.composition.specs.declared.place.Place.{Place}
use Rattle.composition.specs.Services.{Services, states_in}
use Rattle.composition.specs.Sales.{Story, sale, Orchestrator, Sells}
use Rattle.composition.specs.Places.{found_in, number_in}
use Rattle.composition.specs.Composed.{Acceptor, Recognises, product, place_of, Composed, composed, Explored}

-- a set of states as a list: its states below 16, ascending, and nothing else
abbrev pub StatesListed : Type 0
StatesListed = (set : ℕ) → Rising 0 16 (states_in set) × ((q : ℕ) → Member q (states_in set) ↔ ((q < 16) × (has_state set q ≡ true)))

-- what is won after a story is what is won at the place where it leads, and that is what the board says of its number
abbrev pub WonAfterStory : Type 0
WonAfterStory =
    (sat : List ℕ → Bool) (a : Acceptor) (s : Services) → 0 < s.actions → Recognises s.actions a sat → (m : ℕ)
    → ((h : Story) → game.won (product a s) m (place_of a s h) ≡ game.won (sale sat s) m h)
    × ((b : Arena) (found : ℕ → Place) (number : Place → ℕ) → Composed a s b found number → (p : ℕ) → p < b.positions → won b m p ≡ game.won (product a s) m (found p))

-- the rows' choice at the number of the place where a story leads
abbrev pub by_rows : Acceptor → Services → (Place → ℕ) → List Row → Orchestrator
by_rows a s number rows h = choice_in rows (number (place_of a s h))

-- over all orchestrators that read the choices and states so far
pub record Composition (sat : List ℕ → Bool) (a : Acceptor) (s : Services) (b : Arena) (number : Place → ℕ) : Type 0 where
  pub won_is_forced : (m : ℕ) → Decides (won b m 0) ((o : Orchestrator) × Sells sat s o m)
  -- the start has no rank exactly when none of them forces success within any number of steps
  pub ranked_is_forced : Decides (ranked b 0) ((o : Orchestrator) × (m : ℕ) × Sells sat s o m)
  -- otherwise the rank is the least number
  pub least : ranked b 0 ≡ true → (o : Orchestrator) (m : ℕ) → Sells sat s o m → rank b 0 ≤ m
  -- and the choices of every accepted table force success within its rank of the start
  pub rows_force : (rows : List Row) → Accepted b rows → Sells sat s (by_rows a s number rows) (rank_in rows 0)

abbrev pub LawOfComposition : Type 0
LawOfComposition =
    (sat : List ℕ → Bool) (a : Acceptor) (s : Services) → Recognises s.actions a sat
    → (b : Arena) (found : ℕ → Place) (number : Place → ℕ) → Composed a s b found number → Composition sat a s b number

-- the board of the places that a search finds is lawful, and composed
abbrev pub FoundIsComposed : Type 0
FoundIsComposed = (a : Acceptor) (s : Services) (places : List Place) → Explored a s places → Composed a s (composed a s places) (found_in places) (number_in places)

-- so the law of composition holds of it
abbrev pub FoundIsComposition : Type 0
FoundIsComposition =
    (sat : List ℕ → Bool) (a : Acceptor) (s : Services) → Recognises s.actions a sat
    → (places : List Place) → Explored a s places → Composition sat a s (composed a s places) (number_in places)
