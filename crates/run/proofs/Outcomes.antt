-- The library's search of a list for a number is `has`.
use Rattle.std.proofs.Common.{◌≡◌, ℕ, List, [], ◌∷◌, nat_eq, refl, rules}
use Rattle.std.specs.List.{list_any}
use Rattle.board.specs.Lists.{has}

both_ways : (a b : ℕ) → nat_eq a b ≡ nat_eq b a
both_ways a b = search rules

pub contains_has : (q : ℕ) (xs : List ℕ) → list_any (λ y. nat_eq y q) xs ≡ has q xs
contains_has q [] = refl
contains_has q (x ∷ xs) = search (rules, both_ways, contains_has q xs)
