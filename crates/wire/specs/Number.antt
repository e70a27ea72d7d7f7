-- Numbers in groups of seven bits, lowest group first; the top bit is set on every byte but the last.
use Rattle.std.specs.Prelude.{◌≡◌, ℕ, ◌+◌, ◌-◌, ◌*◌, ◌/◌, ◌%◌, ◌<◌, ◌≤◌, cond, ◌||◌, ◌⊎◌, List, [], ◌∷◌, ◌++◌, length, take, drop, Ok, Err, Result, ◌==◌, nat_lt, slice_index, slice_set}
use Rattle.wire.specs.declared.refusal.Cause.{Cause}
use Rattle.wire.specs.declared.refusal.Cause.TheVariants as cause
use Rattle.wire.specs.declared.refusal.Refusal.{Refusal}
use Rattle.wire.specs.Refusals.{refused}

-- the largest number that can be written
abbrev pub largest : ℕ
largest = 65535

-- the bytes of n, as few as possible
abbrev pub groups : ℕ → List ℕ
groups n =
    cond (nat_lt n 128) (n ∷ []) (cond (nat_lt n 16384) ((n % 128 + 128) ∷ (n / 128) ∷ []) ((n % 128 + 128) ∷ (n / 128 % 128 + 128) ∷ (n / 16384) ∷ []))

-- what a form is worth: seven bits a byte, lowest first
abbrev pub worth : List ℕ → ℕ
worth [] = 0
worth (b ∷ bs) = b % 128 + 128 * worth bs

-- a form: bytes of which every one but the last has the top bit
abbrev pub Form : List ℕ → Type 0
Form [] = ⊥
Form (b ∷ []) = b < 128
Form (b ∷ (c ∷ bs)) = (128 ≤ b) × (b < 256) × Form (c ∷ bs)

-- the bytes of n are a form of it, and no form of it is shorter
abbrev pub Shortest : Type 0
Shortest = (n : ℕ) → n ≤ largest → Form (groups n) × (worth (groups n) ≡ n) × ((cs : List ℕ) → Form cs → worth cs ≡ n → length (groups n) ≤ length cs)

-- the bytes begin with the number n, and the rest follows it
abbrev pub Begins : List ℕ → ℕ → List ℕ → Type 0
Begins bs n rest = (n ≤ largest) × (bs ≡ groups n ++ rest)

-- the bytes end before the last byte of a number, and before its third
abbrev pub RunsOut : List ℕ → Type 0
RunsOut bs = (length bs < 3) × ((i : ℕ) → i < length bs → 128 ≤ slice_index bs i)

-- no number stands at the front, and why
pub record RefusedNumber (bs : List ℕ) (e : Cause) : Type 0 where
  pub none : (n : ℕ) (rest : List ℕ) → Begins bs n rest → ⊥
  pub why : ((e ≡ cause.BytesRunOut) × RunsOut bs) ⊎ ((e ≡ cause.NotANumber) × (RunsOut bs → ⊥))

-- A reading as a function of the bytes, byte by byte.
pub data Reading : Type 0 where
  value : ℕ → List ℕ → Reading
  refusal : Cause → Reading

abbrev pub third : ℕ → ℕ → List ℕ → Reading
third a b [] = refusal cause.BytesRunOut
third a b (c ∷ rest) =
    cond (c == 0 || nat_lt 3 c) (refusal cause.NotANumber) (value ((a - 128) + 128 * (b - 128) + 16384 * c) rest)

abbrev pub second : ℕ → List ℕ → Reading
second a [] = refusal cause.BytesRunOut
second a (b ∷ rest) =
    cond (b == 0) (refusal cause.NotANumber) (cond (nat_lt b 128) (value ((a - 128) + 128 * b) rest) (third a b rest))

abbrev pub read_number : List ℕ → Reading
read_number [] = refusal cause.BytesRunOut
read_number (a ∷ rest) = cond (nat_lt a 128) (value a rest) (second a rest)

-- a reading within whole bytes: the number and where it ends, or a refusal at the place where the number begins
abbrev pub placed : List ℕ → ℕ → Reading → Result (ℕ × ℕ) Refusal
placed bs at (value v rest) = Ok (v, length bs - length rest)
placed bs at (refusal e) = Err (refused e at)

unfoldable pub number_at : List ℕ → ℕ → Result (ℕ × ℕ) Refusal
number_at bs at = placed bs at (read_number (drop at bs))

-- xs with bs written from place i on
abbrev pub put_at : List ℕ → ℕ → List ℕ → List ℕ
put_at xs i [] = xs
put_at xs i (b ∷ bs) = put_at (slice_set xs i b) (i + 1) bs

-- what a writer of bytes answers and leaves: where they end, and the bytes in their place; or nothing where they do not fit
abbrev pub Puts : List ℕ → List ℕ → ℕ → List ℕ → Result ℕ Refusal → Type 0
Puts before after at bs (Ok e) = (e ≡ at + length bs) × (e ≤ length before) × (after ≡ put_at before at bs)
Puts before after at bs (Err e) = (e ≡ refused cause.OutputTooShort 0) × (length before < at + length bs) × (after ≡ before)

-- what is written is read back, whatever follows it
abbrev pub RoundTrip : Type 0
RoundTrip = (n : ℕ) (rest : List ℕ) → n ≤ largest → read_number (groups n ++ rest) ≡ value n rest

-- what the output holds once n stands in it from place at to place e: it is read back, and all else is as it was
pub record Written (before after : List ℕ) (at n e : ℕ) : Type 0 where
  pub read_back : number_at after at ≡ Ok (n, e)
  pub front : take at after ≡ take at before
  pub rest : drop e after ≡ drop e before

-- worked examples: FF FF 03 is 65,535; 80 80 04 and 80 00 are no numbers
pub record NumberExamples : Type 0 where
  pub largest_number : read_number (0xff ∷ 0xff ∷ 0x03 ∷ []) ≡ value 65535 []
  pub too_large : read_number (0x80 ∷ 0x80 ∷ 0x04 ∷ []) ≡ refusal cause.NotANumber
  pub too_long : read_number (0x80 ∷ 0x00 ∷ []) ≡ refusal cause.NotANumber
