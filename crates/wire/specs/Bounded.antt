-- Tests at places in a row.
use Rattle.std.specs.Prelude.{ℕ, zero, suc, Bool, true, false, ◌&&◌, ◌||◌}

-- some of the places i, i+1, .. i+count-1 passes the test
abbrev pub some_from : ℕ → ℕ → (ℕ → Bool) → Bool
some_from i zero p = false
some_from i (suc count) p = p i || some_from (suc i) count p

-- every one of them does
abbrev pub every_from : ℕ → ℕ → (ℕ → Bool) → Bool
every_from i zero p = true
every_from i (suc count) p = p i && every_from (suc i) count p
