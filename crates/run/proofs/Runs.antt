-- Runs on an accepted table are never lost, and on time.
use Rattle.std.proofs.Common.{◌≡◌, ℕ, suc, ◌+◌, ◌<◌, ◌≤◌, Bool, true, false, cond, not, eqb, ltb, List, [], ◌∷◌, ◌++◌, length, IfOk, Ok, Err, Result, sym, refl, ap, ◌∙◌, subst, subst₂, ⊎_elim, arith, length-append, MatchResult}
use Rattle.std.proofs.lemmas.Bool.{cases_lt, cond-true, cond-false, cond_both, ne_eqb, or_from, not_from_true, lt-ltb, le-ltb}
use Rattle.wire.specs.declared.refusal.Cause.TheVariants as cause
use Rattle.wire.specs.declared.refusal.Refusal.{Refusal}
use Rattle.wire.specs.Refusals.{number_of, refused}
use Rattle.board.specs.Arena.{Arena, Lawful}
use Rattle.board.specs.Lists.{Member, here, there, some, has}
use Rattle.board.specs.Table.{Ascending, Accepted, find, rank_of, rank_in, choice_of_row, choice_in}
use Rattle.board.specs.declared.table.Row.{Row}
use Rattle.board.proofs.Basics.{first, none, has_member}
use Rattle.board.proofs.Tables.{find_member, ranked_above, start_rank}
use Rattle.run.specs.declared.«record».Record.{Record}
use Rattle.run.specs.declared.«record».State.{State}
use Rattle.run.specs.declared.«record».State.TheVariants.{Idle, Waiting, Done, Abandoned}
use Rattle.run.specs.declared.event.Event.{Event}
use Rattle.run.specs.declared.event.Event.TheVariants as event
use Rattle.run.specs.declared.event.Answer.{Answer}
use Rattle.run.specs.Run.{settled, in_state, birth, by_row, delegating, reached, arriving, reporting, waiving, abandoning, as_waiting, kept, waits, ready, readied, report_own, supposing, go_on, rehearsing, answered, given_by, done_so, step, answers, after, chosen, entered, reported, reports}
use Rattle.run.specs.Law.{Plain, Fine, is_done, Follows, LawOfRuns}

-- How many rows have a rank below t: this falls with each report.
abbrev tick : Bool → ℕ
tick true = 1
tick false = 0

abbrev lower : ℕ → List Row → ℕ
lower t [] = 0
lower t (r ∷ rs) = tick (ltb r.rank t) + lower t rs

tick_le : (x : Bool) → tick x ≤ 1
tick_le true = omega arith
tick_le false = omega arith

one_more : (a t u : ℕ) → t ≤ u → tick (ltb a t) ≤ tick (ltb a u)
one_more a t u l =
    ⊎_elim (λ h. omega (arith, ap tick (lt-ltb a u (omega arith)), tick_le (ltb a t))) (λ h. omega (arith, ap tick (le-ltb a t h))) (cases_lt a t)

lower_le : (t u : ℕ) → t ≤ u → (rs : List Row) → lower t rs ≤ lower u rs
lower_le t u l [] = omega arith
lower_le t u l (r ∷ rs) = omega (arith, one_more r.rank t u l, lower_le t u l rs)

lower_lt : (t u : ℕ) {s : Row} {rs : List Row} → Member s rs → t ≤ s.rank → s.rank < u → lower t rs < lower u rs
lower_lt t u (here {x = r} {xs = rs}) l h =
    omega (arith, ap tick (le-ltb r.rank t l), ap tick (lt-ltb r.rank u h), lower_le t u (omega arith) rs)
lower_lt t u (there {x = s} {y = r} {xs = rs} m) l h = omega (arith, one_more r.rank t u (omega arith), lower_lt t u m l h)

lower_all : (t : ℕ) (rs : List Row) → lower t rs ≤ length rs
lower_all t [] = omega arith
lower_all t (r ∷ rs) = omega (arith, tick_le (ltb r.rank t), lower_all t rs)

lower_short : (t : ℕ) {s : Row} {rs : List Row} → Member s rs → t ≤ s.rank → lower t rs < length rs
lower_short t (here {x = r} {xs = rs}) l = omega (arith, ap tick (le-ltb r.rank t l), lower_all t rs)
lower_short t (there {x = s} {y = r} {xs = rs} m) l = omega (arith, tick_le (ltb r.rank t), lower_short t m l)

-- ascending positions from k on and below n are few
short : (rows : List Row) → Ascending rows → (k n : ℕ) → ((r : Row) → Member r rows → k ≤ r.position) → ((r : Row) → Member r rows → r.position < n) → k ≤ n → k + length rows ≤ n
short [] a k n f t l = omega arith
short (r ∷ rs) a k n f t l =
    omega (arith, f r here, short rs a.1 (suc r.position) n (λ s m. a.0 s m) (λ s m. t s (there m)) (t r here))

abbrev Standing : Arena → ℕ → Row → State → Type 0
Standing b p w Idle = b.done p ≡ false
Standing b p w (Waiting c) = (b.done p ≡ false) × (c ≡ w.choice)
Standing b p w Done = b.done p ≡ true
Standing b p w Abandoned = b.done p ≡ false

-- how a run stands at position p after n reports
record Sound (b : Arena) (rows : List Row) (ok : Accepted b rows) (p n : ℕ) (f : State) : Type 0 where
  at : Row
  listed : Member at rows
  is_at : at.position ≡ p
  within : n + at.rank ≤ ok.start.0.rank
  few : n + lower at.rank rows ≤ lower ok.start.0.rank rows
  standing : Standing b p at f

-- the refusals below 45 are plain
plain : (e : Refusal) → number_of e.cause < 45 → Plain e
plain e l = (λ x. omega arith, λ x. omega arith)

ended_plain : Plain (refused cause.RunEnded 0)
ended_plain = plain (refused cause.RunEnded 0) (omega arith)

waiting_plain : Plain (refused cause.RunWaiting 0)
waiting_plain = plain (refused cause.RunWaiting 0) (omega arith)

mismatch_plain : Plain (refused cause.SlipMismatch 0)
mismatch_plain = plain (refused cause.SlipMismatch 0) (omega arith)

outcome_plain : Plain (refused cause.NotAnOutcome 0)
outcome_plain = plain (refused cause.NotAnOutcome 0) (omega arith)

settled_stands : (b : Arena) (p : ℕ) (w : Row) (t : Bool) → b.done p ≡ t → Standing b p w (settled t)
settled_stands b p w true e = e
settled_stands b p w false e = e

module _ (b : Arena) (lawful : Lawful b) (rows : List Row) (ok : Accepted b rows) where
  abbrev S : ℕ → ℕ → State → Type 0
  S p n f = Sound b rows ok p n f

  abbrev Fit : Record → Type 0
  Fit r = Sound b rows ok r.position r.count r.state

  born : S 0 0 (settled (b.done 0))
  born = record { at = ok.start.0; listed = ok.start.1; is_at = ok.start.2; within = omega arith; few = omega arith; standing = settled_stands b 0 ok.start.0 (b.done 0) refl }

  -- all rows are on the board, and the start's is not below itself
  room : lower ok.start.0.rank rows < 1024
  room =
      let s = lower_short ok.start.0.rank ok.start.1 (omega arith) in
      let n = short rows ok.ascending 0 b.positions (λ r m. omega arith) ok.on_board (omega arith) in
      omega (arith, s, n, lawful.few_positions)

  delegating_fine : (p n : ℕ) (f : State) → S p n f → MatchResult (delegating b rows p f) (λ c. S p n (Waiting c)) Plain
  delegating_fine p n Idle s =
      let w = s.at in
      let up = ranked_above b rows ok w s.listed (ap b.done s.is_at ∙ s.standing) in
      let plays : some (b.outcomes p w.choice) ≡ true = subst (λ x. some (b.outcomes x w.choice) ≡ true) s.is_at (ok.playable w s.listed up) in
      let test = or_from (eqb w.rank 0) (not (some (b.outcomes p w.choice))) (ne_eqb w.rank 0 (λ e. omega (arith, up, e))) (not_from_true _ plays) in
      let found : by_row b p (find rows p) ≡ Ok w.choice = ap (by_row b p) (find_member s.listed ok.ascending p s.is_at) ∙ cond-false _ _ _ test in
      subst (λ x. MatchResult x (λ c. S p n (Waiting c)) Plain) (sym found)
      (record { at = w; listed = s.listed; is_at = s.is_at; within = s.within; few = s.few; standing = (s.standing, refl) })
  delegating_fine p n (Waiting c) s = waiting_plain
  delegating_fine p n Done s = ended_plain
  delegating_fine p n Abandoned s = ended_plain

  moved : (p n q c : ℕ) → S p n (Waiting c) → Member q (b.outcomes p c) → S q (n + 1) (settled (b.done q)) × (n < 1023)
  moved p n q c s i =
      let w = s.at in
      let up = ranked_above b rows ok w s.listed (ap b.done s.is_at ∙ s.standing.0) in
      let j : Member q (b.outcomes w.position w.choice) = subst₂ (λ x y. Member q (b.outcomes x y)) (sym s.is_at) s.standing.1 i in
      let v = ok.falls w s.listed up q j in
      let less = lower_lt v.0.rank w.rank v.1 (omega arith) v.3 in (
        record { at = v.0; listed = v.1; is_at = v.2; within = omega (arith, v.3, s.within); few = omega (arith, less, s.few); standing = settled_stands b q v.0 (b.done q) refl },
        omega (arith, less, s.few, room),
      )

  arriving_fine : (r : Record) (q c : ℕ) → S r.position r.count (Waiting c) → MatchResult (arriving b r q c) Fit Plain
  arriving_fine r q c s =
      cond_both (has q (b.outcomes r.position c)) (cond (ltb r.count 1023) (Ok (reached b r q)) (Err (refused cause.TooManyReports 0))) (Err (refused cause.NotAnOutcome 0)) (λ x. MatchResult x Fit Plain)
      (λ e.
      let m = moved r.position r.count q c s (has_member q (b.outcomes r.position c) e) in
      subst (λ x. MatchResult x Fit Plain) (sym (cond-true (ltb r.count 1023) (Ok (reached b r q)) (Err (refused cause.TooManyReports 0)) (lt-ltb r.count 1023 m.1))) m.0)
      (λ e. outcome_plain)

  reporting_fine : (r : Record) (s q : ℕ) (f : State) → S r.position r.count f → MatchResult (reporting b r s q f) Fit Plain
  reporting_fine r s q Idle h = mismatch_plain
  reporting_fine r s q (Waiting c) h =
      cond_both (eqb s r.number) (arriving b r q c) (Err (refused cause.SlipMismatch 0)) (λ x. MatchResult x Fit Plain) (λ e. arriving_fine r q c h) (λ e. mismatch_plain)
  reporting_fine r s q Done h = mismatch_plain
  reporting_fine r s q Abandoned h = mismatch_plain

  waiving_fine : (r : Record) (s : ℕ) (f : State) → S r.position r.count f → MatchResult (waiving r s f) Fit Plain
  waiving_fine r s Idle h = mismatch_plain
  waiving_fine r s (Waiting c) h =
      cond_both (eqb s r.number) (Ok (in_state r Abandoned)) (Err (refused cause.SlipMismatch 0)) (λ x. MatchResult x Fit Plain)
      (λ e. record { at = h.at; listed = h.listed; is_at = h.is_at; within = h.within; few = h.few; standing = h.standing.0 })
      (λ e. mismatch_plain)
  waiving_fine r s Done h = mismatch_plain
  waiving_fine r s Abandoned h = mismatch_plain

  abandoning_fine : (r : Record) (f : State) → S r.position r.count f → MatchResult (abandoning r f) Fit Plain
  abandoning_fine r Idle h = record { at = h.at; listed = h.listed; is_at = h.is_at; within = h.within; few = h.few; standing = h.standing }
  abandoning_fine r (Waiting c) h = waiting_plain
  abandoning_fine r Done h = ended_plain
  abandoning_fine r Abandoned h = ended_plain

  -- Rehearsing.
  ready_fine : (r : Record) (x : Result ℕ Refusal) → MatchResult x (λ c. S r.position r.count (Waiting c)) Plain → MatchResult (ready r x) Fit Plain
  ready_fine r (Ok c) h = h
  ready_fine r (Err e) h = h

  readied_fine : (r : Record) → Fit r → MatchResult (readied b rows r) Fit Plain
  readied_fine r h =
      let x = delegating b rows r.position r.state in
      cond_both (waits r.state) (Ok r) (ready r x) (λ y. MatchResult y Fit Plain) (λ e. h) (λ e. ready_fine r x (delegating_fine r.position r.count r.state h))

  report_own_fine : (q : ℕ) (x : Result Record Refusal) → MatchResult x Fit Plain → MatchResult (report_own b q x) Fit Plain
  report_own_fine q (Ok w) h = reporting_fine w w.number q w.state h
  report_own_fine q (Err e) h = h

  supposing_fine : (r : Record) (q : ℕ) → Fit r → MatchResult (supposing b rows r q) Fit Plain
  supposing_fine r q h = report_own_fine q (readied b rows r) (readied_fine r h)

  go_on_fine : (x : Result Record Refusal) (n : ℕ) (f : Record → Answer) → MatchResult x Fit Plain → ((w : Record) → Fit w → Fine (f w)) → Fine (go_on x n f)
  go_on_fine (Ok w) n f h g = g w h
  go_on_fine (Err k) n f h g = h

  rehearsing_fine : (r : Record) (n : ℕ) (qs : List ℕ) → Fit r → Fine (rehearsing b rows r n qs)
  rehearsing_fine r n [] h = tt
  rehearsing_fine r n (q ∷ qs) h =
      go_on_fine (supposing b rows r q) n (λ w. rehearsing b rows w (n + 1) qs) (supposing_fine r q h) (λ w g. rehearsing_fine w (n + 1) qs g)

  -- One event.
  abbrev Good : Answer × Record → Type 0
  Good x = Fine x.0 × Fit x.1

  given_fine : (r : Record) (n : ℕ) (x : Result ℕ Refusal) → Fit r → MatchResult x (λ c. S r.position r.count (Waiting c)) Plain → Good (answered (given_by n) (as_waiting r x))
  given_fine r n (Ok c) h g = (tt, g)
  given_fine r n (Err e) h g = (g, h)

  kept_fine : (r : Record) (x : Result Record Refusal) → Fit r → MatchResult x Fit Plain → Good (answered done_so (kept r x))
  kept_fine r (Ok w) h g = (tt, g)
  kept_fine r (Err e) h g = (g, h)

  step_fine : (r : Record) (e : Event) → Fit r → Good (step b rows r e)
  step_fine r event.Delegate h = given_fine r r.number (delegating b rows r.position r.state) h (delegating_fine r.position r.count r.state h)
  step_fine r (event.Report s q) h = kept_fine r (reporting b r s q r.state) h (reporting_fine r s q r.state h)
  step_fine r (event.Waive s) h = kept_fine r (waiving r s r.state) h (waiving_fine r s r.state h)
  step_fine r event.Abandon h = kept_fine r (abandoning r r.state) h (abandoning_fine r r.state h)
  step_fine r event.Look h = (tt, h)
  step_fine r (event.Rehearse qs) h = (rehearsing_fine r 0 qs.now h, h)

  answers_fine : (r : Record) (es : List Event) → Fit r → (a : Answer) → Member a (answers b rows r es) → Fine a
  answers_fine r [] h a m = none m
  answers_fine r (e ∷ es) h a m =
      ⊎_elim (λ s. subst Fine (sym s) (step_fine r e h).0) (answers_fine (step b rows r e).1 es (step_fine r e h).1 a) (first m)

  after_fine : (r : Record) (es : List Event) → Fit r → Fit (after b rows r es)
  after_fine r [] h = h
  after_fine r (e ∷ es) h = after_fine (step b rows r e).1 es (step_fine r e h).1

  stands_done : (p : ℕ) (w : Row) (f : State) → Standing b p w f → is_done f ≡ b.done p
  stands_done p w Idle s = sym s
  stands_done p w (Waiting c) s = sym s.0
  stands_done p w Done s = sym s
  stands_done p w Abandoned s = sym s

-- What the events do to number, position and count.
record Still (r w : Record) : Type 0 where
  same_number : w.number ≡ r.number
  same_position : w.position ≡ r.position
  same_count : w.count ≡ r.count

still : (r : Record) → Still r r
still r = record { same_number = refl; same_position = refl; same_count = refl }

still_in : (r : Record) (f : State) → Still r (in_state r f)
still_in r f = record { same_number = refl; same_position = refl; same_count = refl }

waiving_still : (r : Record) (s : ℕ) (f : State) → IfOk (waiving r s f) (Still r)
waiving_still r s Idle = tt
waiving_still r s (Waiting c) = cond_both (eqb s r.number) (Ok (in_state r Abandoned)) (Err (refused cause.SlipMismatch 0)) (λ x. IfOk x (Still r)) (λ e. still_in r Abandoned) (λ e. tt)
waiving_still r s Done = tt
waiving_still r s Abandoned = tt

abandoning_still : (r : Record) (f : State) → IfOk (abandoning r f) (Still r)
abandoning_still r Idle = still_in r Abandoned
abandoning_still r (Waiting c) = tt
abandoning_still r Done = tt
abandoning_still r Abandoned = tt

kept_still : (r : Record) (x : Result Record Refusal) → IfOk x (Still r) → Still r (kept r x).1
kept_still r (Ok w) h = h
kept_still r (Err e) h = still r

given_still : (r : Record) (x : Result ℕ Refusal) → Still r (as_waiting r x).1
given_still r (Ok c) = still_in r (Waiting c)
given_still r (Err e) = still r

-- an event with what it reported
record Trail (b : Arena) (rows : List Row) (r w : Record) (xs : List (ℕ × ℕ)) : Type 0 where
  led : Follows b rows r.position xs w.position
  added : w.count ≡ r.count + length xs
  kept : w.number ≡ r.number

still_trail : (b : Arena) (rows : List Row) (r w : Record) → Still r w → Trail b rows r w []
still_trail b rows r w s = record { led = sym s.same_position; added = omega (arith, s.same_count); kept = s.same_number }

follows_on : (b : Arena) (rows : List Row) (p m q : ℕ) (xs ys : List (ℕ × ℕ)) → Follows b rows p xs m → Follows b rows m ys q → Follows b rows p (xs ++ ys) q
follows_on b rows p m q [] ys f g = subst (λ k. Follows b rows k ys q) (sym f) g
follows_on b rows p m q (x ∷ xs) ys f g = (f.0, f.1, follows_on b rows x.1 m q xs ys f.2 g)

trail_on : (b : Arena) (rows : List Row) (r w v : Record) (xs ys : List (ℕ × ℕ)) → Trail b rows r w xs → Trail b rows w v ys → Trail b rows r v (xs ++ ys)
trail_on b rows r w v xs ys s t = record {
  led = follows_on b rows r.position w.position v.position xs ys s.led t.led;
  added = omega (arith, s.added, t.added, length-append xs ys);
  kept = t.kept ∙ s.kept;
}

module _ (b : Arena) (rows : List Row) (ok : Accepted b rows) where
  -- where the report is accepted
  abbrev Entry : Record → ℕ → ℕ → Result Record Refusal → Type 0
  Entry r q c x = Trail b rows r (kept r x).1 (entered x c q)

  refusal : (r : Record) (q c : ℕ) (e : Refusal) → Entry r q c (Err e)
  refusal r q c e = still_trail b rows r r (still r)

  arriving_trail : (r : Record) (q c : ℕ) → Sound b rows ok r.position r.count (Waiting c) → Entry r q c (arriving b r q c)
  arriving_trail r q c s =
      let right : c ≡ choice_in rows r.position = s.standing.1 ∙ sym (ap choice_of_row (find_member s.listed ok.ascending r.position s.is_at)) in
      cond_both (has q (b.outcomes r.position c)) (cond (ltb r.count 1023) (Ok (reached b r q)) (Err (refused cause.TooManyReports 0))) (Err (refused cause.NotAnOutcome 0)) (Entry r q c)
      (λ e.
      cond_both (ltb r.count 1023) (Ok (reached b r q)) (Err (refused cause.TooManyReports 0)) (Entry r q c)
      (λ t. record { led = (right, has_member q (b.outcomes r.position c) e, refl); added = refl; kept = refl })
      (λ t. refusal r q c (refused cause.TooManyReports 0)))
      (λ e. refusal r q c (refused cause.NotAnOutcome 0))

  reporting_trail : (r : Record) (s q : ℕ) (f : State) → Sound b rows ok r.position r.count f → Entry r q (chosen f) (reporting b r s q f)
  reporting_trail r s q Idle h = refusal r q 0 (refused cause.SlipMismatch 0)
  reporting_trail r s q (Waiting c) h =
      cond_both (eqb s r.number) (arriving b r q c) (Err (refused cause.SlipMismatch 0)) (Entry r q c) (λ e. arriving_trail r q c h) (λ e. refusal r q c (refused cause.SlipMismatch 0))
  reporting_trail r s q Done h = refusal r q 0 (refused cause.SlipMismatch 0)
  reporting_trail r s q Abandoned h = refusal r q 0 (refused cause.SlipMismatch 0)

  step_trail : (r : Record) (e : Event) → Sound b rows ok r.position r.count r.state → Trail b rows r (step b rows r e).1 (reported b r e)
  step_trail r event.Delegate h = still_trail b rows r _ (given_still r (delegating b rows r.position r.state))
  step_trail r (event.Report s q) h = reporting_trail r s q r.state h
  step_trail r (event.Waive s) h = still_trail b rows r _ (kept_still r (waiving r s r.state) (waiving_still r s r.state))
  step_trail r event.Abandon h = still_trail b rows r _ (kept_still r (abandoning r r.state) (abandoning_still r r.state))
  step_trail r event.Look h = still_trail b rows r r (still r)
  step_trail r (event.Rehearse qs) h = still_trail b rows r r (still r)

  after_trail : Lawful b → (r : Record) (es : List Event) → Sound b rows ok r.position r.count r.state → Trail b rows r (after b rows r es) (reports b rows r es)
  after_trail lawful r [] h = still_trail b rows r r (still r)
  after_trail lawful r (e ∷ es) h =
      trail_on b rows r (step b rows r e).1 _ (reported b r e) (reports b rows (step b rows r e).1 es) (step_trail r e h) (after_trail lawful (step b rows r e).1 es (step_fine b lawful rows ok r e h).1)

pub law_of_runs : LawOfRuns
law_of_runs b lawful rows ok n es =
    let r = birth b n in
    let start = born b lawful rows ok in
    let end = after_fine b lawful rows ok r es start in
    let way = after_trail b rows ok lawful r es start in
    let present : rank_in rows (after b rows r es).position ≡ end.at.rank = ap rank_of (find_member end.listed ok.ascending (after b rows r es).position end.is_at) in
    record {
      fine = answers_fine b lawful rows ok r es start;
      on_time = omega (arith, present, start_rank b rows ok, end.within);
      follows = way.led;
      counted = omega (arith, way.added);
      few = omega (arith, end.few, room b lawful rows ok);
      done_as_board = stands_done b lawful rows ok (after b rows r es).position end.at (after b rows r es).state end.standing;
      numbered = way.kept;
    }
