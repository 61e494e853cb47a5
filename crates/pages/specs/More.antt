-- To believe: whether there may be more after a reading.
use Rattle.std.specs.Prelude.{Bool, true, false}
use Rattle.stdio.specs.declared.Stop.{Stop}
use Rattle.stdio.specs.declared.Stop.TheVariants.{Full, Ended, Failed}

-- only a reading that filled its room may have left something
abbrev pub more_after : Stop → Bool
more_after Full = true
more_after Ended = false
more_after Failed = false
