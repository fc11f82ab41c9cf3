-- `scan_metadata::kept`. A revision has its own rule; any other value takes its place.
-- Assumes nothing.
use Rattle.scan_metadata.proofs.KeepLaws.{place_within, kept_revision, kept_value}
use native.Mathlib.Omega.{arith}
use Rattle.scan_metadata.proofs.kept.Goals as goal

pub returns-then-keyword-eq-REVISION : goal.returns-then-keyword-eq-REVISION
returns-then-keyword-eq-REVISION c = search kept_revision

pub offset_bounds-values-value_of : goal.offset_bounds-values-value_of
offset_bounds-values-value_of c = omega (arith, c.value_of.ensures, place_within c.args.keyword)

pub bounds-values-value_of : goal.bounds-values-value_of
bounds-values-value_of c = omega (arith, c.value_of.ensures, place_within c.args.keyword)

pub returns : goal.returns
returns c = search kept_value
