-- What is won on a board, by rounds and by orchestrators.
use Rattle.std.proofs.Common.{◌≡◌, ℕ, zero, suc, ◌+◌, ◌-◌, ◌<◌, ◌≤◌, true, false, ◌&&◌, leb, ◌⊎◌, [], sym, refl, ap, ◌∙◌, subst, inl, inr, ⊎_elim, arith}
use mathlib.Core.Path.{fun_ext}
use Rattle.std.proofs.lemmas.Bool.{both_ways, true≢false, cases_Bool, cases_eq, cases_lt, and_parts, and_from, or_cases, leb-true, le-leb}
use Rattle.std.proofs.lemmas.Bool.Decides.{same_from_decides}
use Rattle.board.specs.Lists.{Member, some, count}
use Rattle.board.specs.Game.{Game, forced, round, Unfinished, begun, moved}
use Rattle.board.specs.Game as game
use Rattle.board.specs.Arena.{Arena, Lawful}
use Rattle.board.specs.Ranks.{moves, won, ranked, rank, choice, History, onto, histories, Orchestrator, Forces}
use Rattle.board.specs.Law.{WonIsForced, RoundsEnd, RankedIsForced, RankIsLeast, Hopeless, read, named, Play, Succeeds, EveryPlaySucceeds, ForcesIsWithin, LawOfRounds}
use Rattle.board.proofs.Basics.{any_has, least_exact, count_le, count_more, map_back}
use Rattle.board.proofs.Games.{Image, some_map, member_map, forces_within, within_forces, as_found, rank_won, won_more, won_later, rank_le, lowest_force, pull_back, won_is_forced_here}

-- a board is the image of its histories
abbrev Any : History → Type 0
Any h = Unit {0}

abbrev newest : History → ℕ
newest h = h.0

pub forgets : (b : Arena) → Image (histories b) (moves b) Any newest
forgets b = record {
  same_choices = refl;
  same_done = λ h p. refl;
  same_outcomes = λ h c p l d. sym (map_back newest (onto h) (b.outcomes h.0 c) (λ q. refl));
  stays = λ h c y p l d m. tt;
}

-- what forces success by the position alone does so with histories read
pub read_back : (b : Arena) (o : ℕ → ℕ) (m : ℕ) → game.Forces (moves b) 0 o m → Forces b (λ h. o h.0) m
read_back b o m w = pull_back (histories b) (moves b) Any newest (forgets b) (0, []) o m w tt

pub won_is_forced : WonIsForced
won_is_forced b m = won_is_forced_here (histories b) (moves b) Any newest (forgets b) m (0, []) tt

pub forces_won : (b : Arena) (o : Orchestrator) (m : ℕ) → Forces b o m → won b m 0 ≡ true
forces_won b o m f = (won_is_forced b m).1 (o, f)

-- Rounds.

-- off the board nothing is won
pub won_beyond : (b : Arena) → Lawful b → (m p : ℕ) → b.positions ≤ p → won b m p ≡ false
won_beyond b ok zero p l = ok.beyond_done p l
won_beyond b ok (suc m) p l =
    ⊎_elim (λ e. ⊎_elim (λ t. absurd (both_ways (won b m p) (won_beyond b ok m p l) t)) (λ t.
    let w = any_has b.choices (forced (moves b) (won b m) p) t in
    absurd (true≢false (sym (and_parts (some (b.outcomes p w.0)) _ w.2).0 ∙ ap (some {A = ℕ}) (ok.beyond p w.0 l)))) (or_cases (won b m p) _ e)) (λ e. e) (cases_Bool (won b (suc m) p))

-- once a round adds nothing, no later one does
pub stays : (b : Arena) (j : ℕ) → won b (suc j) ≡ won b j → (m : ℕ) → j ≤ m → won b m ≡ won b j
stays b j e zero l = let s : 0 ≡ j = omega arith in ap (won b) s
stays b j e (suc m) l =
    ⊎_elim (λ s. ap (won b) (sym s)) (λ d. ap (round (moves b)) (stays b j e m (omega arith)) ∙ e) (cases_eq j (suc m))

-- each round so far has added a position, unless one of them added nothing
rounds : (b : Arena) → Lawful b → (m : ℕ) → ((j : ℕ) × (j < m) × (won b (suc j) ≡ won b j)) ⊎ (m ≤ count b.positions (won b m))
rounds b ok zero = inr (omega arith)
rounds b ok (suc m) =
    ⊎_elim (λ w. inl (w.0, omega (arith, w.1), w.2))
    (λ l. ⊎_elim (λ more. inr (omega arith))
    (λ same. inl (m, omega arith, fun_ext (λ p. ⊎_elim (λ i. same.1 p i) (λ i. won_beyond b ok (suc m) p i ∙ sym (won_beyond b ok m p i)) (cases_lt p b.positions))))
    (count_more b.positions (won b m) (won b (suc m)) (won_more (moves b) m)))
    (rounds b ok m)

pub rounds_end : RoundsEnd
rounds_end b ok m p e =
    ⊎_elim
    (λ w. ⊎_elim (λ l. won_later (moves b) m b.positions p (omega arith) e)
    (λ l. let k = stays b w.0 w.2 in
    ap (λ f. f p) (k b.positions (omega (arith, w.1)) ∙ sym (k m (omega (arith, w.1)))) ∙ e) (cases_lt m b.positions))
    (λ l. absurd (omega (arith, l, count_le b.positions (won b (suc b.positions)))))
    (rounds b ok (suc b.positions))

lowest : (b : Arena) → ranked b 0 ≡ true → Forces b (λ h. choice b h.0) (rank b 0)
lowest b e = read_back b (choice b) (rank b 0) (lowest_force (moves b) b.positions 0 e)

pub ranked_is_forced : RankedIsForced
ranked_is_forced b ok = (
  λ e. ((λ h. choice b h.0), rank b 0, lowest b e),
  λ w. rounds_end b ok w.1 0 (forces_won b w.0 w.1 w.2),
)

pub rank_is_least : RankIsLeast
rank_is_least b ok e = (
  lowest b e,
  λ o m f. ⊎_elim (λ l. rank_le (moves b) b.positions 0 m (omega arith) (forces_won b o m f)) (λ l. omega (arith, rank_le (moves b) b.positions 0 b.positions (omega arith) e)) (cases_lt m b.positions),
)

pub hopeless : Hopeless
hopeless b ok = (
  λ e o m f. both_ways (ranked b 0) e ((ranked_is_forced b ok).1 (o, m, f)),
  λ h. ⊎_elim (λ e. let w = (ranked_is_forced b ok).0 e in absurd (h w.0 w.1 w.2)) (λ e. e) (cases_Bool (ranked b 0)),
)

-- Whole plays.
read_now : (ps : ℕ → ℕ) (n : ℕ) → (read ps n).0 ≡ ps n
read_now ps zero = refl
read_now ps (suc n) = refl

module _ (b : Arena) (o : Orchestrator) (m : ℕ) (f : Forces b o m) (ps : ℕ → ℕ) (play : Play b o ps) where
  abbrev Open : ℕ → Type 0
  Open j = (b.done (ps j) ≡ false) × (some (named b o ps j) ≡ true)

  abbrev At : ℕ → Type 0
  At n = Unfinished (histories b) (0, []) o (read ps n) n

  open_here : (n : ℕ) → b.done (ps n) ≡ false → At n → Open n
  open_here n d u =
      (d, ap (λ p. some (b.outcomes p (o (read ps n)))) (sym (read_now ps n)) ∙ sym (some_map (onto (read ps n)) (b.outcomes (read ps n).0 (o (read ps n)))) ∙ (f (read ps n) n u).2)

  goes_on : (n : ℕ) → Open n → At n → b.done (ps (suc n)) ≡ false → At (suc n)
  goes_on n h u d =
      moved u (member_map (onto (read ps n)) (subst (λ p. Member (ps (suc n)) (b.outcomes p (o (read ps n)))) (sym (read_now ps n)) (play.1 n h.0 h.1))) d

  ends : (k n : ℕ) → n + k ≡ m → b.done (ps n) ≡ false → At n → ((j : ℕ) → j < n → Open j) → Succeeds b o ps m
  ends zero n e d u before = absurd (omega (arith, (f (read ps n) n u).0))
  ends (suc k) n e d u before =
      let h = open_here n d u in
      let so_far : (j : ℕ) → j < suc n → Open j = λ j l. ⊎_elim (λ s. subst Open (sym s) h) (λ ne. before j (omega arith)) (cases_eq j n) in
      ⊎_elim (λ t. (suc n, omega arith, t, so_far)) (λ t. ends k (suc n) (omega arith) t (goes_on n h u t) so_far) (cases_Bool (b.done (ps (suc n))))

pub every_play_succeeds : EveryPlaySucceeds
every_play_succeeds b o m f ps play =
    ⊎_elim (λ t. (0, omega arith, t, λ j l. absurd (omega arith)))
    (λ t.
    let d : b.done 0 ≡ false = ap b.done (sym play.0) ∙ t in
    ends b o m f ps play m 0 (omega arith) t (subst (λ h. Unfinished (histories b) (0, []) o h 0) (ap (λ p. (p, [])) (sym play.0)) (begun d)) (λ j l. absurd (omega arith)))
    (cases_Bool (b.done (ps 0)))

pub forces_is_within : ForcesIsWithin
forces_is_within b o m = (forces_within (histories b) (0, []) o m, within_forces (histories b) (0, []) o m)

-- What solve goes by.
by_rank : (b : Arena) (m p : ℕ) → m ≤ b.positions → won b m p ≡ (ranked b p && leb (rank b p) m)
by_rank b m p l =
    same_from_decides (won b m p) (ranked b p && leb (rank b p) m) (λ e. e, λ e. e) (
      λ e.
          let w = and_parts (ranked b p) _ e in
          won_later (moves b) (rank b p) m p (leb-true (rank b p) m w.1) (rank_won (moves b) b.positions p w.0),
      λ e. and_from (ranked b p) _ (won_later (moves b) m b.positions p l e) (le-leb (rank b p) m (rank_le (moves b) b.positions p m l e)),
    )

pub law_of_rounds : LawOfRounds
law_of_rounds b ok = record {
  stop = λ m l h p.
      ap (λ f. f p) (stays b m (fun_ext (λ q. ⊎_elim (λ i. h q i) (λ i. won_beyond b ok (suc m) q i ∙ sym (won_beyond b ok m q i)) (cases_lt q b.positions))) b.positions l);
  by_rank = by_rank b;
  first_round = λ m p l e before. least_exact (suc b.positions) (λ k. won b k p) m (omega arith) e before;
  as_found = as_found (moves b) b.positions;
  first_choice = λ p c l e before. least_exact b.choices (forced (moves b) (won b (rank b p - 1)) p) c l e before;
}
