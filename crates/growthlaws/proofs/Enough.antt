-- There are tries enough: more of them change nothing. Assumes nothing.
use Rattle.std.proofs.Common.{◌≡◌, ℕ, ◌^◌, ◌≤◌, true}
use Rattle.rules.specs.Sizes.{is_size, least_log}
use Rattle.rules.specs.Cells.{Counts}
use Rattle.rules.specs.Moves.{Held, Became}
use Rattle.rules.specs.Growing.{tries, sizes}
use Rattle.growthlaws.proofs.Tries.{tries_enough, sizes_enough}

-- more tries than there are sizes change nothing: the first line of `tries` says what its other lines say of a size above C
pub more_tries : (C null S : ℕ) (from : Held) (c : Counts) (clear : Held) (F : ℕ) (spare : Became) → is_size C ≡ true → 2 ^ least_log ≤ F
    → (more : ℕ) → sizes ≤ more → tries C null S from c clear more F spare ≡ tries C null S from c clear sizes F spare
more_tries C null S from c clear F spare s l more u = tries_enough C null S from c clear sizes more F spare u (sizes_enough C F s l)
