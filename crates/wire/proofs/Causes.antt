-- No two causes have one number: a number leads back to its cause.
use Rattle.std.proofs.Common.{◌≡◌, List, [], ◌∷◌, get_or, sym, refl, ap, ◌∙◌}
use Rattle.wire.specs.declared.refusal.Cause.{Cause}
use Rattle.wire.specs.declared.refusal.Cause.TheVariants as cause
use Rattle.wire.specs.Refusals.{number_of, NumbersDiffer}

-- the cause of each number; a number that is not used has any
abbrev by_number : List Cause
by_number =
    cause.OutOfMemory ∷ cause.UnknownByte ∷ cause.FormulaComplete ∷ cause.LetterOutOfRange ∷ cause.TooManySigns ∷ cause.TooDeep ∷ cause.TooManyTemporal ∷ cause.Incomplete ∷ cause.ActionsOutOfRange ∷ cause.ActionsDiffer ∷ cause.OutOfMemory ∷ cause.BytesRunOut ∷ cause.NotANumber ∷ cause.OutsideField ∷ cause.BytesLeftOver ∷ cause.OutOfMemory ∷ cause.OutOfMemory ∷ cause.OutOfMemory ∷ cause.OutOfMemory ∷ cause.OutOfMemory ∷ cause.OutOfMemory ∷ cause.TooManyClasses ∷ cause.TooManyPositions ∷ cause.NoOrchestrator ∷ cause.OutputTooShort ∷ cause.NoFreeSlot ∷ cause.OutOfMemory ∷ cause.OutOfMemory ∷ cause.OutOfMemory ∷ cause.OutOfMemory ∷ cause.OutOfMemory ∷ cause.RowsNotAscending ∷ cause.RankAgainstDone ∷ cause.ChoiceUnplayable ∷ cause.NoStartRow ∷ cause.RankNotFalling ∷ cause.OutOfMemory ∷ cause.OutOfMemory ∷ cause.OutOfMemory ∷ cause.OutOfMemory ∷ cause.OutOfMemory ∷ cause.RunEnded ∷ cause.RunWaiting ∷ cause.SlipMismatch ∷ cause.NotAnOutcome ∷ cause.NoUsableRow ∷ cause.OutOfMemory ∷ cause.OutOfMemory ∷ cause.TooManyReports ∷ cause.OutOfMemory ∷ cause.OutOfMemory ∷ cause.StateNotInitial ∷ cause.ServicesDiffer ∷ cause.CannotPerform ∷ cause.RollLength ∷ cause.OutOfMemory ∷ cause.OutOfMemory ∷ cause.OutOfMemory ∷ cause.OutOfMemory ∷ cause.OutOfMemory ∷ cause.OutOfMemory ∷ cause.FileTooLong ∷ cause.FileMissing ∷ cause.OutOfMemory ∷ cause.OutOfMemory ∷ cause.OutOfMemory ∷ cause.OutOfMemory ∷ cause.OutOfMemory ∷ cause.OutOfMemory ∷ cause.OutOfMemory ∷ cause.OutOfMemory ∷ []

found : (c : Cause) → get_or by_number (number_of c) cause.OutOfMemory ≡ c
found cause.UnknownByte = refl
found cause.FormulaComplete = refl
found cause.LetterOutOfRange = refl
found cause.TooManySigns = refl
found cause.TooDeep = refl
found cause.TooManyTemporal = refl
found cause.Incomplete = refl
found cause.ActionsOutOfRange = refl
found cause.ActionsDiffer = refl
found cause.BytesRunOut = refl
found cause.NotANumber = refl
found cause.OutsideField = refl
found cause.BytesLeftOver = refl
found cause.TooManyClasses = refl
found cause.TooManyPositions = refl
found cause.NoOrchestrator = refl
found cause.OutputTooShort = refl
found cause.NoFreeSlot = refl
found cause.RowsNotAscending = refl
found cause.RankAgainstDone = refl
found cause.ChoiceUnplayable = refl
found cause.NoStartRow = refl
found cause.RankNotFalling = refl
found cause.RunEnded = refl
found cause.RunWaiting = refl
found cause.SlipMismatch = refl
found cause.NotAnOutcome = refl
found cause.NoUsableRow = refl
found cause.TooManyReports = refl
found cause.StateNotInitial = refl
found cause.ServicesDiffer = refl
found cause.CannotPerform = refl
found cause.RollLength = refl
found cause.FileTooLong = refl
found cause.FileMissing = refl
found cause.OutOfMemory = refl

pub numbers_differ : NumbersDiffer
numbers_differ a b e = sym (found a) ∙ ap (λ n. get_or by_number n cause.OutOfMemory) e ∙ found b
