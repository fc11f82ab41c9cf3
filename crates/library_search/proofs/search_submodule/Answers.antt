use Rattle.library_search.proofs.Submodules.{no_image, image_opened, no_modules, set_entered, used_up, no_submodules, module_entered, imports_end}
use Rattle.library_search.proofs.Submodules.{imports_passed, submodule_passed, broken_off, no_lists, module_passed}
use Rattle.library_search.proofs.search_submodule.Goals as goal

pub returns-in_default : goal.returns-in_default
returns-in_default c = search (no_image, c.in_default.ensures)

pub search-init : goal.search-init
search-init c = search (image_opened, c.in-Ok.ensures)

pub returns-in_default-read_count : goal.returns-in_default-read_count
returns-in_default-read_count c = search (no_modules, c.in_default-read_count.ensures)

pub loop-j-init : goal.loop-j-init
loop-j-init c = search (set_entered, c.in-Ok-read_count.ensures)

pub returns-in_default-enter_module : goal.returns-in_default-enter_module
returns-in_default-enter_module c = search (no_submodules, c.in_default-enter_module.ensures)

pub loop-k-init : goal.loop-k-init
loop-k-init c = search (module_entered, c.in-Ok-enter_module.ensures)

pub loop-k-preserved : goal.loop-k-preserved
loop-k-preserved c = search (submodule_passed, c.in-Continue.ensures)

pub returns-in_default-leave_module : goal.returns-in_default-leave_module
returns-in_default-leave_module c = search (no_lists, c.in_default-leave_module.ensures)

pub loop-j-preserved : goal.loop-j-preserved
loop-j-preserved c = search (module_passed, c.in-Ok-leave_module.ensures)

pub returns-in-Break-try_entries : goal.returns-in-Break-try_entries
returns-in-Break-try_entries c = search (imports_end, c.in-Break-try_entries.ensures)

pub search-preserved : goal.search-preserved
search-preserved c = search (imports_passed, c.in-Continue-try_entries.ensures)

pub returns-after-search : goal.returns-after-search
returns-after-search c = search used_up

pub returns-in-Break : goal.returns-in-Break
returns-in-Break c = search (broken_off, c.in-Break.ensures)
