-- The laws of ranks.
use Rattle.std.specs.Prelude.{◌≡◌, ℕ, zero, suc, ◌-◌, ◌<◌, ◌≤◌, true, false, ◌&&◌, List, [], Decides, nat_le}
use Rattle.board.specs.Lists.{Member, some}
use Rattle.board.specs.Game.{Within, forced, found_by, rank_if}
use Rattle.board.specs.Arena.{Arena, Lawful}
use Rattle.board.specs.Ranks.{moves, histories, won, ranked, rank, choice, History, onto, Orchestrator, Forces}

-- the start is won within m exactly when some orchestrator forces success within m
abbrev pub WonIsForced : Type 0
WonIsForced = (b : Arena) (m : ℕ) → Decides (won b m 0) ((o : Orchestrator) × Forces b o m)

-- what is won at all is won within the number of positions
abbrev pub RoundsEnd : Type 0
RoundsEnd = (b : Arena) → Lawful b → (m p : ℕ) → won b m p ≡ true → ranked b p ≡ true

-- the start has a rank exactly when some orchestrator forces success within some number of steps
abbrev pub RankedIsForced : Type 0
RankedIsForced = (b : Arena) → Lawful b → Decides (ranked b 0) ((o : Orchestrator) × (m : ℕ) × Forces b o m)

-- then the rank is the least such number, and the lowest choices that lead below it force success within it
abbrev pub RankIsLeast : Type 0
RankIsLeast = (b : Arena) → Lawful b → ranked b 0 ≡ true → Forces b (λ h. choice b h.0) (rank b 0) × ((o : Orchestrator) (m : ℕ) → Forces b o m → rank b 0 ≤ m)

-- it has none exactly when no orchestrator forces success within any number of steps
abbrev pub Hopeless : Type 0
Hopeless = (b : Arena) → Lawful b → (ranked b 0 ≡ false → (o : Orchestrator) (m : ℕ) → Forces b o m → ⊥) × (((o : Orchestrator) (m : ℕ) → Forces b o m → ⊥) → ranked b 0 ≡ false)

-- What forcing means for whole plays: ps n is the position after n steps, and read ps n the history then.
abbrev pub read : (ℕ → ℕ) → ℕ → History
read ps zero = (ps 0, [])
read ps (suc n) = onto (read ps n) (ps (suc n))

abbrev pub named : Arena → Orchestrator → (ℕ → ℕ) → ℕ → List ℕ
named b o ps n = b.outcomes (ps n) (o (read ps n))

-- ps follows o as long as it is not done and what o names is playable
abbrev pub Play : Arena → Orchestrator → (ℕ → ℕ) → Type 0
Play b o ps = (ps 0 ≡ 0) × ((n : ℕ) → b.done (ps n) ≡ false → some (named b o ps n) ≡ true → Member (ps (suc n)) (named b o ps n))

-- it succeeds within m steps, and before that it is not done and what o names is playable
abbrev pub Succeeds : Arena → Orchestrator → (ℕ → ℕ) → ℕ → Type 0
Succeeds b o ps m = (n : ℕ) × (n ≤ m) × (b.done (ps n) ≡ true) × ((j : ℕ) → j < n → (b.done (ps j) ≡ false) × (some (named b o ps j) ≡ true))

abbrev pub EveryPlaySucceeds : Type 0
EveryPlaySucceeds = (b : Arena) (o : Orchestrator) (m : ℕ) → Forces b o m → (ps : ℕ → ℕ) → Play b o ps → Succeeds b o ps m

-- forcing, said by plays that have not succeeded yet, is forcing said by recursion
abbrev pub ForcesIsWithin : Type 0
ForcesIsWithin = (b : Arena) (o : Orchestrator) (m : ℕ) → (Forces b o m → Within (histories b) o m (0, [])) × (Within (histories b) o m (0, []) → Forces b o m)

-- What solve goes by: rounds, ranks and lowest choices.
pub record Rounds (b : Arena) : Type 0 where
  -- once a round adds no position, all that have a rank are found
  pub stop : (m : ℕ) → m ≤ b.positions → ((p : ℕ) → p < b.positions → won b (suc m) p ≡ won b m p) → (p : ℕ) → ranked b p ≡ won b m p
  -- won within m: a rank, and it is at most m
  pub by_rank : (m p : ℕ) → m ≤ b.positions → won b m p ≡ (ranked b p && nat_le (rank b p) m)
  -- the round in which a position is first won is its rank
  pub first_round : (m p : ℕ) → m ≤ b.positions → won b m p ≡ true → ((k : ℕ) → k < m → won b k p ≡ false) → rank b p ≡ m
  -- so what a program finds round by round is the rank, where there is one
  pub as_found : (p : ℕ) → found_by (moves b) b.positions p ≡ rank_if (moves b) b.positions p
  -- and its choice is the first one that passes in the round before
  pub first_choice : (p c : ℕ) → c < b.choices → forced (moves b) (won b (rank b p - 1)) p c ≡ true → ((d : ℕ) → d < c → forced (moves b) (won b (rank b p - 1)) p d ≡ false) → choice b p ≡ c

abbrev pub LawOfRounds : Type 0
LawOfRounds = (b : Arena) → Lawful b → Rounds b
