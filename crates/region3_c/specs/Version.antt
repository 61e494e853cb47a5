-- To believe: the version of the library, 0.3.0, as one number: 10000 * first + 100 * second + third, as bindings/c/region3.h has it. Assumes nothing.
use Rattle.std.specs.Prelude.{ℕ, ◌+◌, ◌*◌}

abbrev pub library_version : ℕ
library_version = 10000 * 0 + 100 * 3 + 0
