-- From stories of choices and states to composed boards.
use Rattle.std.proofs.Common.{◌≡◌, ℕ, zero, suc, ◌*◌, ◌<◌, Bool, false, ◌&&◌, List, [], ◌∷◌, ◌++◌, map, set, Decides, sym, refl, ap, ◌∙◌, subst, ap₂, ⊎_elim, mod-lt, arith}
use Rattle.std.proofs.lemmas.Bool.{cases_lt}
use Rattle.automaton.specs.Classes.{Trace, leads}
use Rattle.board.specs.Lists.{Member, here, there}
use Rattle.board.specs.Game.{Forces}
use Rattle.board.specs.Arena.{Arena}
use Rattle.board.specs.Ranks.{moves, won}
use Rattle.board.specs.Table.{rank_in, choice_in}
use Rattle.board.proofs.Basics.{member_unmap}
use Rattle.board.proofs.Games.{Image, member_map, image_won, rank_le, pull_back, won_is_forced_here}
use Rattle.board.proofs.Ranking.{rounds_end}
use Rattle.board.proofs.Tables.{rows_force}
use Rattle.composition.specs.declared.place.Place.{Place}
use Rattle.composition.specs.Services.{Services}
use Rattle.composition.specs.Sales.{service_of_choice, action_of, Story, actions_of, states_of, next_states, all_final, sale, Orchestrator, Sells}
use Rattle.composition.specs.Composed.{Acceptor, Recognises, led, product, place_of, Composed}
use Rattle.composition.specs.Law.{WonAfterStory, Composition, LawOfComposition}

pub map_via : {A B C : Type 0} (f : B → C) (g : A → B) (k : A → C) (xs : List A) → ((x : A) → f (g x) ≡ k x) → map f (map g xs) ≡ map k xs
map_via f g k [] h = refl
map_via f g k (x ∷ xs) h = ap₂ ◌∷◌ (h x) (map_via f g k xs h)

pub map_back_in : {A B : Type 0} (f : B → A) (g : A → B) (xs : List A) → ((x : A) → Member x xs → f (g x) ≡ x) → map f (map g xs) ≡ xs
map_back_in f g [] h = refl
map_back_in f g (x ∷ xs) h = ap₂ ◌∷◌ (h x here) (map_back_in f g xs (λ y m. h y (there m)))

pub leads_append : (next : ℕ → ℕ → ℕ) (q : ℕ) (u : List ℕ) (x : ℕ) → leads next q (u ++ (x ∷ [])) ≡ next (leads next q u) x
leads_append next q [] x = refl
leads_append next q (y ∷ u) x = leads_append next (next q y) u x

trace_append : (k : ℕ) (u : List ℕ) (x : ℕ) → Trace k u → x < k → Trace k (u ++ (x ∷ []))
trace_append k [] x t l = (l, tt)
trace_append k (y ∷ u) x t l = (t.0, trace_append k u x t.1 l)

-- the actions of a story are actions
pub actions_trace : (s : Services) → 0 < s.actions → (h : Story) → Trace s.actions (actions_of s h)
actions_trace s some [] = tt
actions_trace s some (x ∷ h) = trace_append s.actions (actions_of s h) (action_of s x.0) (actions_trace s some h) (mod-lt x.0 some)

module _ (sat : List ℕ → Bool) (a : Acceptor) (s : Services) (some : 0 < s.actions) (right : Recognises s.actions a sat) where
  -- the product is the image of the sale
  place_done : (h : Story) → (product a s).done (place_of a s h) ≡ (sale sat s).done h
  place_done h = ap (λ t. t && all_final s (states_of s h)) (right (actions_of s h) (actions_trace s some h))

  place_outcomes : (h : Story) (c : ℕ) → (product a s).outcomes (place_of a s h) c ≡ map (place_of a s) ((sale sat s).outcomes h c)
  place_outcomes h c =
      sym (map_via (place_of a s) (λ q. (c, q) ∷ h) (led a s (place_of a s h) c) (next_states s (states_of s h) c)
      (λ q. ap (λ (z : ℕ). record { class = z; states = set (states_of s h) (service_of_choice s c) q }) (leads_append a.next 0 (actions_of s h) (action_of s c))))

  module _ (b : Arena) (found : ℕ → Place) (number : Place → ℕ) (ok : Composed a s b found number) where
    -- the position where a story leads
    abbrev at : Story → ℕ
    at h = number (place_of a s h)

    abbrev OnBoard : Story → Type 0
    OnBoard h = (at h < b.positions) × (found (at h) ≡ place_of a s h)

    at_done : (h : Story) → OnBoard h → b.done (at h) ≡ (sale sat s).done h
    at_done h i = ok.done_as (at h) i.0 ∙ ap (product a s).done i.1 ∙ place_done h

    module _ (h : Story) (c : ℕ) (i : OnBoard h) (l : c < s.count * s.actions) (d : (sale sat s).done h ≡ false) where
      both : map found (b.outcomes (at h) c) ≡ map (place_of a s) ((sale sat s).outcomes h c)
      both =
          ok.outcomes_as (at h) c i.0 (subst (λ n. c < n) (sym ok.same_choices) l) (at_done h i ∙ d)
          ∙ ap (λ x. (product a s).outcomes x c) i.1
          ∙ place_outcomes h c

      at_outcomes : b.outcomes (at h) c ≡ map at ((sale sat s).outcomes h c)
      at_outcomes =
          sym (map_back_in number found (b.outcomes (at h) c) (λ q m. ok.numbered q (ok.lawful.on_board (at h) c q m)))
          ∙ ap (map number) both
          ∙ map_via number (place_of a s) at ((sale sat s).outcomes h c) (λ y. refl)

      at_stays : (y : Story) → Member y ((sale sat s).outcomes h c) → OnBoard y
      at_stays y m =
          let w = member_unmap found (b.outcomes (at h) c) (place_of a s y) (subst (Member (place_of a s y)) (sym both) (member_map (place_of a s) m)) in
          let l = ok.lawful.on_board (at h) c w.0 w.1 in
          let e : at y ≡ w.0 = ap number w.2 ∙ ok.numbered w.0 l in
          (subst (λ p. p < b.positions) (sym e) l, ap found e ∙ sym w.2)

    -- the composed board is the image of the sale
    pub composed_image : Image (sale sat s) (moves b) OnBoard at
    composed_image = record { same_choices = ok.same_choices; same_done = at_done; same_outcomes = at_outcomes; stays = λ h c y i l d m. at_stays h c i l d y m }

    begins : at [] ≡ 0
    begins = ap number (sym ok.start) ∙ ok.numbered 0 ok.lawful.a_position

    begins_on : OnBoard []
    begins_on = (subst (λ p. p < b.positions) (sym begins) ok.lawful.a_position, ap found begins ∙ ok.start)

    won_as : (m : ℕ) → Decides (won b m 0) ((o : Orchestrator) × Sells sat s o m)
    won_as m = subst (λ p. Decides (won b m p) ((o : Orchestrator) × Sells sat s o m)) begins (won_is_forced_here (sale sat s) (moves b) OnBoard at composed_image m [] begins_on)

    pub composition : Composition sat a s b number
    composition = record {
      won_is_forced = won_as;
      ranked_is_forced = (
        λ e. let w = (won_as b.positions).0 e in (w.0, b.positions, w.1),
        λ w. rounds_end b ok.lawful w.1 0 ((won_as w.1).1 (w.0, w.2)),
      );
      least = λ e o m f.
          ⊎_elim (λ l. rank_le (moves b) b.positions 0 m (omega arith) ((won_as m).1 (o, f))) (λ l. omega (arith, rank_le (moves b) b.positions 0 b.positions (omega arith) e)) (cases_lt m b.positions);
      rows_force = λ rows good.
          pull_back (sale sat s) (moves b) OnBoard at composed_image [] (choice_in rows) (rank_in rows 0)
          (subst (λ p. Forces (moves b) p (choice_in rows) (rank_in rows 0)) (sym begins) (rows_force b ok.lawful rows good)) begins_on;
    }

-- where there is a choice there is an action
some_action : (n k : ℕ) → 0 < n * k → 0 < k
some_action n zero l = absurd (omega arith)
some_action n (suc k) l = omega arith

pub law_of_composition : LawOfComposition
law_of_composition sat a s right b found number ok =
    composition sat a s (some_action s.count s.actions (subst (λ n. 0 < n) ok.same_choices ok.lawful.a_choice)) right b found number ok

-- The product, with no numbers: it is the image of the sale, and of the board.
pub won_after_story : WonAfterStory
won_after_story sat a s some right m = (
  λ h.
      image_won (sale sat s) (product a s) (λ _. Unit {0}) (place_of a s)
      (record { same_choices = refl; same_done = λ h p. place_done sat a s some right h; same_outcomes = λ h c p l d. place_outcomes sat a s some right h c; stays = λ h c y p l d m. tt }) m h tt,
  λ b found number ok p l.
      sym (image_won (moves b) (product a s) (λ q. q < b.positions) found
      (record {
        same_choices = sym ok.same_choices;
        same_done = λ q i. sym (ok.done_as q i);
        same_outcomes = λ q c i r d. sym (ok.outcomes_as q c i r d);
        stays = λ q c y i r d m. ok.lawful.on_board q c y m;
      }) m p l),
)
