-- What is won on a board, its ranks and choices, and orchestrators that read the positions so far.
use Rattle.std.specs.Prelude.{ℕ, Bool, List, [], ◌∷◌, map}
use Rattle.board.specs.Arena.{Arena}
use Rattle.board.specs.Game.{Game}
use Rattle.board.specs.Game as game

-- the game on positions
abbrev pub moves : Arena → Game ℕ
moves b = record { choices = b.choices; done = b.done; outcomes = b.outcomes }

abbrev pub won : Arena → ℕ → ℕ → Bool
won b m p = game.won (moves b) m p

-- no later round than the number of positions adds anything
abbrev pub ranked : Arena → ℕ → Bool
ranked b p = won b b.positions p

abbrev pub rank : Arena → ℕ → ℕ
rank b p = game.rank_to (moves b) b.positions p

abbrev pub choice : Arena → ℕ → ℕ
choice b p = game.choice_to (moves b) b.positions p

-- the same game, where the position is read with all positions before it, newest first
abbrev pub History : Type 0
History = ℕ × List ℕ

abbrev pub onto : History → ℕ → History
onto h q = (q, h.0 ∷ h.1)

abbrev pub histories : Arena → Game History
histories b = record { choices = b.choices; done = λ h. b.done h.0; outcomes = λ h c. map (onto h) (b.outcomes h.0 c) }

abbrev pub Orchestrator : Type 0
Orchestrator = History → ℕ

-- from the start, every play that follows o succeeds within m steps
abbrev pub Forces : Arena → Orchestrator → ℕ → Type 0
Forces b o m = game.Forces (histories b) (0, []) o m
