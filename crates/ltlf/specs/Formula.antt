-- Formulas, their prefix text and their sizes.
use Rattle.std.specs.Prelude.{ℕ, suc, ◌+◌, ◌<◌, ◌≤◌, max, List, [], ◌∷◌, ◌++◌}

-- a letter; ! X N F G with one operand; & | > U R with two
pub data Formula : Type 0 where
  letter : ℕ → Formula
  neg next weak_next eventually always : Formula → Formula
  conj disj implies until release : Formula → Formula → Formula

-- the prefix text, as bytes
abbrev pub print : Formula → List ℕ
print (letter a) = (97 + a) ∷ []
print (neg f) = 33 ∷ print f
print (next f) = 88 ∷ print f
print (weak_next f) = 78 ∷ print f
print (eventually f) = 70 ∷ print f
print (always f) = 71 ∷ print f
print (conj f g) = 38 ∷ (print f ++ print g)
print (disj f g) = 124 ∷ (print f ++ print g)
print (implies f g) = 62 ∷ (print f ++ print g)
print (until f g) = 85 ∷ (print f ++ print g)
print (release f g) = 82 ∷ (print f ++ print g)

-- the number of signs and letters
abbrev pub size : Formula → ℕ
size (letter a) = 1
size (neg f) = suc (size f)
size (next f) = suc (size f)
size (weak_next f) = suc (size f)
size (eventually f) = suc (size f)
size (always f) = suc (size f)
size (conj f g) = suc (size f + size g)
size (disj f g) = suc (size f + size g)
size (implies f g) = suc (size f + size g)
size (until f g) = suc (size f + size g)
size (release f g) = suc (size f + size g)

-- the number of levels; the outermost sign is level 1, and a letter is a level too
abbrev pub levels : Formula → ℕ
levels (letter a) = 1
levels (neg f) = suc (levels f)
levels (next f) = suc (levels f)
levels (weak_next f) = suc (levels f)
levels (eventually f) = suc (levels f)
levels (always f) = suc (levels f)
levels (conj f g) = suc (max (levels f) (levels g))
levels (disj f g) = suc (max (levels f) (levels g))
levels (implies f g) = suc (max (levels f) (levels g))
levels (until f g) = suc (max (levels f) (levels g))
levels (release f g) = suc (max (levels f) (levels g))

-- the number of temporal signs, X N F G U R
abbrev pub temporals : Formula → ℕ
temporals (letter a) = 0
temporals (neg f) = temporals f
temporals (next f) = suc (temporals f)
temporals (weak_next f) = suc (temporals f)
temporals (eventually f) = suc (temporals f)
temporals (always f) = suc (temporals f)
temporals (conj f g) = temporals f + temporals g
temporals (disj f g) = temporals f + temporals g
temporals (implies f g) = temporals f + temporals g
temporals (until f g) = suc (temporals f + temporals g)
temporals (release f g) = suc (temporals f + temporals g)

-- every letter is one of k actions
abbrev pub Letters : ℕ → Formula → Type 0
Letters k (letter a) = a < k
Letters k (neg f) = Letters k f
Letters k (next f) = Letters k f
Letters k (weak_next f) = Letters k f
Letters k (eventually f) = Letters k f
Letters k (always f) = Letters k f
Letters k (conj f g) = Letters k f × Letters k g
Letters k (disj f g) = Letters k f × Letters k g
Letters k (implies f g) = Letters k f × Letters k g
Letters k (until f g) = Letters k f × Letters k g
Letters k (release f g) = Letters k f × Letters k g

-- a formula within the limits of a task for k actions
pub record Fits (k : ℕ) (f : Formula) : Type 0 where
  pub some_actions : 1 ≤ k
  pub few_actions : k ≤ 16
  pub letters : Letters k f
  pub few_signs : size f ≤ 64
  pub few_levels : levels f ≤ 16
  pub few_temporals : temporals f ≤ 7
