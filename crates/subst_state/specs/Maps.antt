-- What a substitution reads, and the budget.
-- Assumes nothing.
use Rattle.std.specs.Prelude.{ℕ}
use Rattle.tape.specs.declared.layout.Layout.{Layout}
use Rattle.tape.specs.declared.layout.Place.{Place}
use Rattle.nodes.specs.declared.Name.{Name}
use Rattle.subst_state.specs.declared.maps.Substitution.{Substitution}

-- the Rust's `SubstMaps`: the layouts of the two tapes, where the parameters stand and how many they are, and what messages, charges and
-- generated names want
pub record SubstMaps : Type 0 where
  pub definition : Layout
  pub call : Layout
  pub params : Place
  pub count : ℕ
  pub macro_name : Name
  pub call_span : ℕ
  pub limit : ℕ
  pub file : ℕ

-- those of a substitution
abbrev pub maps_at : Substitution → SubstMaps
maps_at s =
    record {
      definition = s.definition.layout;
      call = s.call.layout;
      params = s.params.place;
      count = s.params.count;
      macro_name = s.macro_name;
      call_span = s.call_span;
      limit = s.limit;
      file = s.file;
    }
