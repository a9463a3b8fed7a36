-- Inner. Why numbers are refused that were to be made of 64 bits.
use Rattle.loss_model.specs.declared.narrowing.Unfit.{Unfit}
use Rattle.loss_model.specs.declared.narrowing.Unfit.TheVariants.{OutOfMemory, TooWide}

-- they are too wide only where they don't fit; want of memory is free of a cause
abbrev pub IsRefusal : Type 0 → Unfit → Type 0
IsRefusal fits OutOfMemory = Unit {0}
IsRefusal fits TooWide = ¬ fits
