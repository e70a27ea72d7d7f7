-- What writing a table answers, and what the output holds then.
use Rattle.std.specs.Prelude.{◌≡◌, ℕ, ◌+◌, ◌-◌, ◌<◌, ◌≤◌, Bool, false, cond, ◌&&◌, List, ◌++◌, length, replicate, Ok, Err, Result, nat_le}
use Rattle.wire.specs.declared.refusal.Cause.TheVariants as cause
use Rattle.wire.specs.declared.refusal.Refusal.{Refusal}
use Rattle.wire.specs.Refusals.{refused}
use Rattle.wire.specs.Number.{put_at}
use Rattle.board.specs.declared.table.Row.{Row}
use Rattle.table.specs.declared.write.Writer.{Writer}
use Rattle.table.specs.Bytes.{table_bytes}

-- a number can hold how many rows there are, and the room their bytes
abbrev pub fits : List Row → ℕ → Bool
fits rows room = nat_le (length rows) 65535 && nat_le (length (table_bytes rows)) room

abbrev pub written : List Row → ℕ → Result ℕ Refusal
written rows room = cond (fits rows room) (Ok (length (table_bytes rows))) (Err (refused cause.OutputTooShort 0))

-- the bytes, and zeros behind them; where they do not fit, only zeros
abbrev pub holding : List Row → ℕ → List ℕ
holding rows room = cond (fits rows room) (table_bytes rows ++ replicate (room - length (table_bytes rows)) 0) (replicate room 0)

-- bytes that were put from a place on, or did not fit; then the output may hold anything
abbrev pub Puts : Result ℕ Refusal → List ℕ → List ℕ → ℕ → List ℕ → Type 0
Puts (Ok e) before after at bs = (e ≡ at + length bs) × (e ≤ length before) × (after ≡ put_at before at bs)
Puts (Err e) before after at bs = (e ≡ refused cause.OutputTooShort 0) × (length before < at + length bs)

-- the same for a writer, whose place says where they end
abbrev pub Adds : Result (Unit {0}) Refusal → Writer → Writer → List ℕ → Type 0
Adds (Ok u) before after bs = Puts (Ok after.at) before.output.now after.output.now before.at bs
Adds (Err e) before after bs = Puts (Err e) before.output.now after.output.now before.at bs

-- the same for a whole table at the front
abbrev pub PutsTable : Result ℕ Refusal → List ℕ → List ℕ → List Row → Type 0
PutsTable (Ok e) before after rows = (length rows ≤ 65535) × Puts (Ok e) before after 0 (table_bytes rows)
PutsTable (Err e) before after rows = (e ≡ refused cause.OutputTooShort 0) × (fits rows (length before) ≡ false)
