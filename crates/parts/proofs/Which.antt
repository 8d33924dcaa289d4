-- A half is known by the rules' name for it. Assumes nothing.
use mathlib.Core.Path.{◌≡◌, refl}
use Rattle.rules.specs.Growing as rule
use Rattle.parts.specs.Halves.{half_of}
use Rattle.parts.specs.declared.Half.{Half}
use Rattle.parts.specs.declared.Half.TheVariants.{Lower, Upper}

abbrev pub unhalf : rule.Half → Half
unhalf rule.lower = Lower
unhalf rule.upper = Upper

pub half_back : (h : Half) → unhalf (half_of h) ≡ h
half_back Lower = refl
half_back Upper = refl
