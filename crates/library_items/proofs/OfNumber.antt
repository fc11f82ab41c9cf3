-- A kind and its number.
-- Assumes nothing.
use mathlib.Core.Path.{◌≡◌, refl}
use Rattle.library_items.specs.Items.{number_of, kind_of}
use Rattle.library_items.specs.declared.Kind.{Kind}
use Rattle.library_items.specs.declared.Kind.TheVariants.{Module, Submodule, Augmenting, Deviation, ImportOnly, FirstSub, LaterSub, NoName}

-- a kind's number stands for it
pub kind_back : (k : Kind) → kind_of (number_of k) ≡ k
kind_back Module = refl
kind_back Submodule = refl
kind_back Augmenting = refl
kind_back Deviation = refl
kind_back ImportOnly = refl
kind_back FirstSub = refl
kind_back LaterSub = refl
kind_back NoName = refl
