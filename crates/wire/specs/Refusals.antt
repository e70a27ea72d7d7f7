-- The refusal numbers, and how a refusal is written.
use Rattle.std.specs.Prelude.{◌≡◌, ℕ, List, ◌++◌, codes, decimal}
use Rattle.wire.specs.declared.refusal.Cause.{Cause}
use Rattle.wire.specs.declared.refusal.Cause.TheVariants as cause
use Rattle.wire.specs.declared.refusal.Refusal.{Refusal}

abbrev pub number_of : Cause → ℕ
number_of cause.UnknownByte = 1
number_of cause.FormulaComplete = 2
number_of cause.LetterOutOfRange = 3
number_of cause.TooManySigns = 4
number_of cause.TooDeep = 5
number_of cause.TooManyTemporal = 6
number_of cause.Incomplete = 7
number_of cause.ActionsOutOfRange = 8
number_of cause.ActionsDiffer = 9
number_of cause.BytesRunOut = 11
number_of cause.NotANumber = 12
number_of cause.OutsideField = 13
number_of cause.BytesLeftOver = 14
number_of cause.TooManyClasses = 21
number_of cause.TooManyPositions = 22
number_of cause.NoOrchestrator = 23
number_of cause.OutputTooShort = 24
number_of cause.NoFreeSlot = 25
number_of cause.RowsNotAscending = 31
number_of cause.RankAgainstDone = 32
number_of cause.ChoiceUnplayable = 33
number_of cause.NoStartRow = 34
number_of cause.RankNotFalling = 35
number_of cause.RunEnded = 41
number_of cause.RunWaiting = 42
number_of cause.SlipMismatch = 43
number_of cause.NotAnOutcome = 44
number_of cause.NoUsableRow = 45
number_of cause.TooManyReports = 48
number_of cause.StateNotInitial = 51
number_of cause.ServicesDiffer = 52
number_of cause.CannotPerform = 53
number_of cause.RollLength = 54
number_of cause.FileTooLong = 61
number_of cause.FileMissing = 62
number_of cause.OutOfMemory = 70

-- no two causes have one number
abbrev pub NumbersDiffer : Type 0
NumbersDiffer = (a b : Cause) → number_of a ≡ number_of b → a ≡ b

-- `refused N at P`
abbrev pub shown_text : Refusal → List ℕ
shown_text r = codes "refused " ++ (decimal (number_of r.cause) ++ (codes " at " ++ decimal r.place))

-- a refusal for a cause at a place
abbrev pub refused : Cause → ℕ → Refusal
refused e at = record { cause = e; place = at }

-- want of memory
abbrev pub no_memory : Refusal
no_memory = refused cause.OutOfMemory 0
