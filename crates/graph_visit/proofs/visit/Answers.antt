-- `graph_visit::visit`. Each way out is one law of Visiting.
-- Assumes nothing.
use mathlib.Core.Path.{refl, ap, ◌∙◌}
use Rattle.std.specs.Prelude.{Ok}
use Rattle.std.proofs.lemmas.Result.{err_from_is_err_and}
use Rattle.graph_visit.proofs.Bundle.{held_of}
use Rattle.graph_visit.proofs.Visiting.{text_missing, text_refused, import_refused, called, import_rows, include_rows, level_in, kept_levels}
use Rattle.graph_visit.proofs.Visiting.{kept_above, saved_same, marked_read}
use Rattle.graph_visit.proofs.visit.Goals as goal

pub read_text-requires : goal.read_text-requires
read_text-requires c = (held_of c.args.ground.held, c.requires.0.scan)

pub link_imports-requires : goal.link_imports-requires
link_imports-requires c = (
  import_rows _ _ _ _ _ _ _ _ c.read_text.ensures _ _ _ (c.in-Ok-Some.is ∙ ap Ok c.in-Ok-Some.field-0-is) c.requires.0.scan,
  c.requires.0.edges_so_far,
  c.requires.1,
)

pub save_includes-requires : goal.save_includes-requires
save_includes-requires c =
    include_rows _ _ _ _ _ _ _ _ c.read_text.ensures _ _ _ _ _ (c.in-Ok-Some.is ∙ ap Ok c.in-Ok-Some.field-0-is) c.requires.0.scan
    (level_in c.requires.0 c.remember.ensures)

pub returns-in-Ok-None : goal.returns-in-Ok-None
returns-in-Ok-None c = (
  text_missing _ _ _ _ _ c.name_of-name.ensures _ _ _ _ _ _ _ c.read_text.ensures _ _ _ _ _ _ _ _
      (c.in-Ok-None.is ∙ ap Ok c.in-Ok-None.field-0-is) c.stop_with.ensures,
  kept_levels _ _ _ _ _ _ _ _ c.read_text.ensures _ c.remember.ensures,
  marked_read c.remember.ensures _ refl,
)

pub returns-in-Err : goal.returns-in-Err
returns-in-Err c = (
  text_refused _ _ _ _ _ c.name_of-name.ensures _ _ _ _ _ _ _ c.read_text.ensures _ _ _ _ _ _ _ _ _ c.in-Err.is,
  kept_levels _ _ _ _ _ _ _ _ c.read_text.ensures _ c.remember.ensures,
  marked_read c.remember.ensures _ refl,
)

pub returns-in_err-total : goal.returns-in_err-total
returns-in_err-total c =
    let p = err_from_is_err_and c.from_residual.result c.from_residual.ensures.1 in
    rw (p.1, p.2) (
      import_refused _ _ _ _ _ c.name_of-name.ensures _ _ _ _ _ _ _ c.read_text.ensures _ _ _ _ _ _ _ _ _
          (c.in-Ok-Some.is ∙ ap Ok c.in-Ok-Some.field-0-is) _ _ _ c.link_imports.ensures _ c.in_err-total.was,
      kept_levels _ _ _ _ _ _ _ _ c.read_text.ensures _ c.remember.ensures,
      marked_read c.remember.ensures _ refl,
    )

pub returns : goal.returns
returns c = (
  called _ _ _ _ _ c.name_of-name.ensures _ _ _ _ _ _ _ c.read_text.ensures _ _ _ _ _ _ _ _ _
      (c.in-Ok-Some.is ∙ ap Ok c.in-Ok-Some.field-0-is) _ _ _ c.link_imports.ensures _ _ _ c.remember.ensures c.save_includes.ensures
      c.in_ok-total.was,
  kept_above _ _ _ _ _ _ _ _ c.read_text.ensures _ c.remember.ensures _ _ _ _ c.save_includes.ensures,
  marked_read c.remember.ensures _ (saved_same _ c.save_includes.ensures),
)
