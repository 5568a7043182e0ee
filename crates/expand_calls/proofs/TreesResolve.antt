-- The macro that a call names: where a registry stands, the code finds the definition that `Registry::get` finds.
-- Assumes nothing.
use Rattle.subst_call.specs.declared.Macro.{Macro}
use Rattle.std.proofs.Common.{Some, None, Option}
use Prim.Native.Nat.{ℕ, ◌≤◌}
use native.Mathlib.Omega.{arith}
use mathlib.Core.Path.{◌≡◌, refl}
use mathlib.Core.List.{List, [], ◌∷◌}
use mathlib.Core.Bool.{Bool, true, false}
use mathlib.Core.Option.{Option as Maybe, none, some}
use lib.Dec.{T, eqb}
use lib.ListN.{length}
use Rattle.format.specs.Entry.{Text, entry}
use Rattle.format.specs.Ast.{Condition, Call, MacroBody, MacroDef}
use Rattle.format.specs.Flat.{flat_condition, flat_call, flat_def, open_flat}
use Rattle.format.specs.Limits.{node_weight, call_weight, deep_body, deep_bodies}
use Rattle.format.specs.Tape.{few_params, few_params_each, registry_root}
use Rattle.format.proofs.All.{All, all_nil, all_cons, all_head, all_tail}
use Rattle.definition.specs.Text.{eq_text}
use Rattle.definition.specs.Registry.{get}
use Rattle.definition.specs.Expand.{Registry, is_value_body, calls_value}
use Rattle.tape.specs.Pick.{pick}
use Rattle.nodes.specs.Node.{name_at}
use Rattle.tape.specs.declared.layout.Place.{Place}
use Rattle.nodes.specs.declared.Heading.{Heading}
use Rattle.tape.proofs.Located.{Inside, inside_next, Alone}
use Rattle.nodes.proofs.Entries.{is_expected}
use Rattle.nodes.proofs.Placed.{parts_call, parts_def}
use Rattle.tape.proofs.Roots.{few_params_lem as few-params-of, nesting_64}
use Rattle.format.proofs.Tests.{and_left, and_right}
use Rattle.nodes.specs.declared.Definition.{Definition}
use Rattle.registry.specs.declared.rows.Row.{Row}
use Rattle.registry.specs.Places.{key_of, end_of, get_at}
use Rattle.registry.proofs.Standing.{Indexed, indexed_nil, indexed_cons, Ended, ended_nil, ended_cons, other_key}
use Rattle.subst_call.specs.Front.{on_macro, macro_from}
use Rattle.subst_call.proofs.TreesFront.{kind_of, def_head, params, called, macro_from_lem}
use Rattle.expand_calls.specs.Output.{Reads}
use Rattle.expand_calls.specs.Calls.{on_found, resolve_in, is_value, calls_value_in}

-- the registry of the definition stands on the tape, in the index, and within the largest figures
pub record Settled (R : Reads) (reg : Registry) : Type 0 where
  pub indexed : Indexed R.registry R.definitions R.places reg.defs
  pub ended : Ended R.registry R.definitions R.places reg.defs
  pub its_limit : R.limit ≡ reg.limit
  pub its_file : R.file ≡ reg.file
  pub few_params_lem : All (λ (d : MacroDef). length d.params ≤ 16) reg.defs
  pub shallow : All (λ (d : MacroDef). deep_body node_weight d.body ≤ 64) reg.defs

-- a registry that keeps to them, and so each of its definitions
each_few : (ds : List MacroDef) → T (few_params_each ds) → All (λ (d : MacroDef). length d.params ≤ 16) ds
unfolding few_params_each
each_few [] t = all_nil
each_few (d ∷ ds) t = all_cons (few-params-of d (and_left (few_params d) (few_params_each ds) t)) (each_few ds (and_right (few_params d) (few_params_each ds) t))

each_shallow : (ds : List MacroDef) → deep_bodies node_weight ds ≤ 64 → All (λ (d : MacroDef). deep_body node_weight d.body ≤ 64) ds
unfolding deep_bodies
each_shallow [] h = all_nil
each_shallow (d ∷ ds) h = all_cons {a = d} (omega arith) (each_shallow ds (omega arith))

pub settled_of : {R : Reads} {reg : Registry} → Alone registry_root R.registry R.definitions reg.defs
    → Indexed R.registry R.definitions R.places reg.defs → Ended R.registry R.definitions R.places reg.defs
    → R.limit ≡ reg.limit → R.file ≡ reg.file → Settled R reg
unfolding registry_root
settled_of {reg = reg} h indexed ended limit file =
    record {
      indexed = indexed;
      ended = ended;
      its_limit = limit;
      its_file = file;
      few_params_lem = each_few reg.defs h.few;
      shallow = each_shallow reg.defs (nesting_64 (deep_bodies node_weight reg.defs) (deep_bodies call_weight reg.defs) h.depths);
    }

module _ (R : Reads) where
  -- nothing was found, or a definition that stands on the registry's tape
  pub data Resolved : Option Macro → Maybe MacroDef → Type 0 where
    unresolved : Resolved None none
    resolved : (d : MacroDef) {p : Place} (h : Inside R.registry R.definitions p (flat_def d)) → length d.params ≤ 16
        → deep_body node_weight d.body ≤ 64 → Resolved (Some (called d h d.body)) (some d)

  -- the macro that was found
  abbrev macro_of : Option Definition → Option Macro
  macro_of f = on_found None (macro_from R.registry R.definitions) f

  abbrev Looked : List Row → List MacroDef → Text → Type 0
  Looked rs ds name = Resolved (macro_of (get_at R.registry R.definitions rs name)) (get ds name)

  found_resolves : {rs : List Row} {ds : List MacroDef} → Indexed R.registry R.definitions rs ds → Ended R.registry R.definitions rs ds
      → All (λ (d : MacroDef). length d.params ≤ 16) ds → All (λ (d : MacroDef). deep_body node_weight d.body ≤ 64) ds → (name : Text)
      → Looked rs ds name
  unfolding get_at get
  found_resolves indexed_nil ended_nil few deep name = unresolved
  found_resolves (indexed_cons {r = r} {rs = rs} {d = d} {ds = ds} i k h) (ended_cons e more) few deep name =
      let parts = parts_def d i in
      rw (parts.parts.read, parts.spelled)
      (by_key (eqb r.key (key_of name)) refl (found_resolves h more (all_tail few) (all_tail deep) name))
    where
      go : (b : Bool) → Looked rs ds name
          → Resolved
          (macro_of
          (pick b (Some (record { heading = def_head d i; params = params d i; end = end_of R.definitions rs })) (get_at R.registry R.definitions rs name)))
          (elim b [ true ↦ some d | false ↦ get ds name ])
      go true rest = rw (macro_from_lem d i e) (resolved d i (all_head few) (all_head deep))
      go false rest = rest

      by_key : (t : Bool) → eqb r.key (key_of name) ≡ t → Looked rs ds name
          → Resolved
          (macro_of
          (pick t
          (pick (eq_text d.name name) (Some (record { heading = def_head d i; params = params d i; end = end_of R.definitions rs }))
          (get_at R.registry R.definitions rs name))
          (get_at R.registry R.definitions rs name)))
          (elim (eq_text d.name name) [ true ↦ some d | false ↦ get ds name ])
      by_key true q rest = go (eq_text d.name name) rest
      by_key false q rest = rw (other_key r d.name name k q) rest

module _ {R : Reads} {reg : Registry} (S : Settled R reg) where
  pub resolves : (head : Heading) {name : Text} → name_at R.condition R.layout head.name ≡ name
      → Resolved R (resolve_in R head) (get reg.defs name)
  unfolding resolve_in
  resolves head {name} e = rw e (found_resolves R S.indexed S.ended S.few_params_lem S.shallow name)

  value_kind : {m : Option Macro} {o : Maybe MacroDef} → Resolved R m o
      → on_macro false (λ def. is_value R def.kind) m ≡ elim o [ some d ↦ is_value_body d.body | none ↦ false ]
  unfolding is_value_body
  value_kind unresolved = refl
  value_kind (resolved d h few deep) = by_body d.body
    where
      by_body : (b : MacroBody) → is_value R (kind_of b) ≡ is_value_body b
      by_body MacroBody.Cedar = refl
      by_body (MacroBody.TemporalCondition c) = refl
      by_body (MacroBody.TemporalValue t) = refl

  -- whether a condition is a bare call of a value macro
  pub calls_value_lem : (s : ℕ) (c : Call) {p : Place} → Inside R.condition R.layout p (flat_condition (Condition.ConditionCall s c))
      → calls_value_in R p ≡ calls_value reg c
  unfolding calls_value_in calls_value open_flat
  calls_value_lem s (Call.MacroCall span name args) i =
      let parts = parts_call span name args (inside_next (entry 11 s) (flat_call (Call.MacroCall span name args)) i) in
      rw (is_expected i, parts.parts.read) (value_kind (resolves _ parts.spelled))
