-- Refinements: what a base comes out as, and the fold of its fields.
-- Assumes nothing.
use Rattle.std.specs.Prelude.{ℕ, ◌+◌, List, [], ◌∷◌, leb, ltb, eqb}
use Rattle.tape.specs.Pick.{pick}
use Rattle.tape.specs.Layouts.{area_layout}
use Rattle.nodes.specs.Node.{by_code, on_entry, on_value, entry_at, expect_at, named}
use Rattle.tape.specs.declared.layout.Place.{Place}
use Rattle.area.specs.Area.{Area, area_in, patch_in}
use Rattle.messages.specs.Reason.{refused_at}
use Rattle.messages.specs.declared.Reason.TheVariants.{NotAPredicate}
use Rattle.subst_state.specs.Arguments.{on_found, arg_for}
use Rattle.walk_state.specs.Writing.{Progress, going, after, stop}
use Rattle.subst_state.specs.Maps.{SubstMaps}
use Rattle.subst_state.specs.declared.maps.Argument.{Argument}

module _ (def : List ℕ) (table : List Argument) (m : SubstMaps) where
  -- a `?` comes out as its argument
  unfoldable pub sigil_shape_in : Place → ℕ
  sigil_shape_in p =
      on_value 12
      (λ size next. on_found 12 (λ arg. arg.root) (arg_for def table m (named p size)))
      (expect_at def m.definition p 58)

  -- the code of the condition that the one at a place comes out as: a refinement that is not refused is a predicate
  unfoldable pub shape_in : Place → ℕ
  shape_in p =
      on_entry 0 (λ code value next. by_code ((12, sigil_shape_in next) ∷ (13, 7) ∷ []) code code)
      (entry_at def m.definition p)

-- the count of the fields of the predicate at entry `base` stands behind its span, its namespace, its action and its kind
unfoldable pub add_fields_in : ℕ → ℕ → Area → Area
add_fields_in base count P =
    pick (leb base 1024)
    (on_value P (λ namespace next. pick (ltb namespace 1024) (patch_in (base + 5 + namespace) count P) P)
    (expect_at P.bytes (area_layout P.out.base P.out.n P.out.t) (record { at = base + 2; text = 0 }) 41))
    P

-- the fields behind the condition at entry `base` become those of a predicate; of any other condition it is 47
unfoldable pub fold_in : ℕ → ℕ → ℕ → ℕ → Progress → Progress
fold_in base count own shape =
    after λ st bytes.
    pick (eqb shape 7) (going st.place st.charged (add_fields_in base count (area_in st.out bytes)))
    (stop (refused_at own (NotAPredicate shape)) st bytes)
