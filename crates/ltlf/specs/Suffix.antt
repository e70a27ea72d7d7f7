-- Truth by suffixes: what a formula says of a trace, from its first action and from what is said of the rest.
use Rattle.std.specs.Prelude.{◌≡◌, ℕ, suc, Bool, true, false, not, ◌&&◌, ◌||◌, List, [], ◌∷◌, ◌==◌}
use Rattle.ltlf.specs.Formula.{Formula, letter, neg, next, weak_next, eventually, always, conj, disj, implies, until, release}
use Rattle.ltlf.specs.Truth.{holds, satisfied}

-- the trace has no action
abbrev pub empty : List ℕ → Bool
empty [] = true
empty (x ∷ t) = false

-- what a formula keeps of the suffix w, for when an action is put in front of it; only a temporal sign keeps something
abbrev pub kept : List ℕ → Formula → Bool
kept w (letter a) = false
kept w (neg f) = false
kept w (next f) = not (empty w) && satisfied f w
kept w (weak_next f) = empty w || satisfied f w
kept w (eventually f) = satisfied (eventually f) w
kept w (always f) = satisfied (always f) w
kept w (conj f g) = false
kept w (disj f g) = false
kept w (implies f g) = false
kept w (until f g) = satisfied (until f g) w
kept w (release f g) = satisfied (release f g) w

-- one more action in front moves each place by one
abbrev pub Shifts : Type 0
Shifts = (f : Formula) (x : ℕ) (t : List ℕ) (i : ℕ) → holds f (x ∷ t) (suc i) ≡ holds f t i

-- what holds of x ∷ t, and of the empty trace, sign by sign; ! & | > are in `holds` itself
pub record BySuffix : Type 0 where
  pub at_letter : (a x : ℕ) (t : List ℕ) → satisfied (letter a) (x ∷ t) ≡ (x == a)
  pub at_next : (f : Formula) (x : ℕ) (t : List ℕ) → satisfied (next f) (x ∷ t) ≡ (not (empty t) && satisfied f t)
  pub at_weak_next : (f : Formula) (x : ℕ) (t : List ℕ) → satisfied (weak_next f) (x ∷ t) ≡ (empty t || satisfied f t)
  pub at_eventually : (f : Formula) (x : ℕ) (t : List ℕ) → satisfied (eventually f) (x ∷ t) ≡ (satisfied f (x ∷ t) || satisfied (eventually f) t)
  pub at_always : (f : Formula) (x : ℕ) (t : List ℕ) → satisfied (always f) (x ∷ t) ≡ (satisfied f (x ∷ t) && satisfied (always f) t)
  pub at_until : (f g : Formula) (x : ℕ) (t : List ℕ) → satisfied (until f g) (x ∷ t) ≡ (satisfied g (x ∷ t) || (satisfied f (x ∷ t) && satisfied (until f g) t))
  pub at_release : (f g : Formula) (x : ℕ) (t : List ℕ) → satisfied (release f g) (x ∷ t) ≡ (satisfied g (x ∷ t) && (satisfied f (x ∷ t) || satisfied (release f g) t))
  pub end_letter : (a : ℕ) → satisfied (letter a) [] ≡ false
  pub end_next : (f : Formula) → satisfied (next f) [] ≡ false
  pub end_weak_next : (f : Formula) → satisfied (weak_next f) [] ≡ true
  pub end_eventually : (f : Formula) → satisfied (eventually f) [] ≡ false
  pub end_always : (f : Formula) → satisfied (always f) [] ≡ true
  pub end_until : (f g : Formula) → satisfied (until f g) [] ≡ false
  pub end_release : (f g : Formula) → satisfied (release f g) [] ≡ true
