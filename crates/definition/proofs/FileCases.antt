-- The expansions of specs/FileCases.antt, by computation.
-- Assumes nothing.
use mathlib.Core.Path.{◌≡◌, refl}
use mathlib.Core.List.{map}
use Rattle.format.specs.Flat.{open_flat}
use Rattle.format.specs.Macro.{open_macro}
use Rattle.format.specs.Names.{open_names}
use Rattle.format.specs.Limits.{open_limits}
use Rattle.format.specs.Entry.{open_entry}
use Rattle.definition.specs.Text.{open_text}
use Rattle.definition.specs.Outcome.{open_outcome}
use Rattle.definition.specs.Size.{open_size}
use Rattle.definition.specs.Check.{open_check}
use Rattle.definition.specs.Registry.{open_registry}
use Rattle.definition.specs.Substitute.{open_substitute}
use Rattle.definition.specs.Expand.{open_expand}
use Rattle.definition.specs.Cases.{macro_m}
use Rattle.definition.specs.FileCases.{expanded, inputs, in_file_0, in_file_3}

pub cases_in_file_0 : map (expanded 0) inputs ≡ in_file_0
unfolding
    open_entry open_flat open_macro open_names open_limits open_text open_outcome open_size open_check open_registry open_substitute open_expand macro_m
    expanded inputs in_file_0
cases_in_file_0 = refl

pub cases_in_file_3 : map (expanded 3) inputs ≡ in_file_3
unfolding
    open_entry open_flat open_macro open_names open_limits open_text open_outcome open_size open_check open_registry open_substitute open_expand macro_m
    expanded inputs in_file_3
cases_in_file_3 = refl
