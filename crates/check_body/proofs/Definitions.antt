-- Where a definition stands, its check finds what the check of the definition says.
-- Assumes nothing.
use Rattle.messages.specs.declared.Refused.{Refused}
use Rattle.std.proofs.Common.{Some, Result}
use Prim.Native.Nat.{ℕ, ◌≤◌}
use mathlib.Core.Path.{◌≡◌, refl, ◌∙◌}
use mathlib.Core.List.{List, [], ◌∷◌}
use lib.ListN.{length}
use Rattle.format.specs.Entry.{Entry, entry, text_entry}
use Rattle.format.specs.Ast.{MacroParam, MacroBody, MacroDef}
use Rattle.format.specs.Flat.{flat_params, flat_body, flat_def}
use Rattle.format.specs.Limits.{node_weight, deep_body}
use Rattle.definition.specs.Check.{Verdict, names_of, check_body, check_def}
use Rattle.definition.proofs.Values.{value_body_lem}
use Rattle.nodes.specs.Node.{named, body_at, param_at}
use Rattle.tape.specs.declared.layout.Layout.{Layout}
use Rattle.tape.specs.declared.layout.Place.{Place}
use Rattle.tape.proofs.Located.{past, Inside}
use Rattle.nodes.proofs.Placed.{ParamParts, parts_params, past_params, parts_body, parts_def}
use Rattle.message_parts.specs.Names.{names_at}
use Rattle.check_parts.specs.Names.{Declaration, declared_in}
use Rattle.answer.specs.Matches.{VerdictMatches}
use Rattle.check_body.specs.Definition.{declaring, body_in, on_body, def_in, verdict_of}
use Rattle.check_parts.proofs.Steps.{one_name}
use Rattle.check_walk.proofs.Right.{Finds, passes, refuses, ending, right}

-- the names of the parameters
module _ {s : List ℕ} {l : Layout} where
  param_read : {q : MacroParam} {es : List Entry} {p end : Place} (i : ParamParts s l p q es end)
      → Some (named (past (entry 42 q.span ∷ []) p) (length q.name), past (text_entry 40 q.name ∷ []) (past (entry 42 q.span ∷ []) p)) ≡ param_at s l p
  unfolding param_at
  param_read i = rw (i.span, i.name.read)

  names_right : (ps : List MacroParam) {p : Place} → Inside s l p (flat_params ps) → names_at s l p (length ps) ≡ names_of ps
  unfolding names_at names_of
  names_right [] h = refl
  names_right (q ∷ qs) {p} h =
      let i = parts_params (q ∷ qs) h in
      one_name s l p (param_read i) (length qs) refl ∙ rw (i.spelled, names_right qs i.name.runs.first)

module _ (s : List ℕ) (d : Declaration) (ps : List MacroParam) (declared : declared_in s d ≡ names_of ps) where
  body_right : (b : MacroBody) (p : Place) → Inside s d.layout p (flat_body b) → deep_body node_weight b ≤ 64
      → Finds s d.layout (on_body s d (body_at s d.layout p)) (past (flat_body b) p) (check_body (names_of ps) b)
  unfolding body_in check_body deep_body
  body_right MacroBody.Cedar p h m = rw (parts_body MacroBody.Cedar h) (passes refl)
  body_right (MacroBody.TemporalCondition c) p h m =
      let i = parts_body (MacroBody.TemporalCondition c) h in
      rw i.read (ending i.runs.ends ((right s d (names_of ps) declared 64).condition c i.runs.first m))
  body_right (MacroBody.TemporalValue t) p h m =
      let i = parts_body (MacroBody.TemporalValue t) h in
      rw (i.read, value_body_lem (names_of ps) t) (ending i.runs.ends ((right s d (names_of ps) declared 64).term t 0 i.runs.first m))

def_right : {s : List ℕ} {l : Layout} (def : MacroDef) {p : Place} → Inside s l p (flat_def def) → deep_body node_weight def.body ≤ 64
    → Finds s l (def_in s l p) (past (flat_def def) p) (check_def def)
unfolding def_in check_def
def_right {s} {l} def h m =
    let i = parts_def def h in
    let runs = i.parts.runs in
    rw (i.parts.read, past_params def.params runs.first)
    (ending runs.ends
    (body_right s (declaring l _ (length def.params)) def.params (names_right def.params runs.first) def.body _ runs.second m))

verdict_matches : {s : List ℕ} {l : Layout} {x : Result Place Refused} {end : Place} {v : Verdict} → Finds s l x end v → VerdictMatches s l (verdict_of x) v
unfolding VerdictMatches
verdict_matches (passes e) = rw e tt
verdict_matches (refuses e same) = rw e same

pub def_matches : {s : List ℕ} {l : Layout} (def : MacroDef) {p : Place} → Inside s l p (flat_def def) → deep_body node_weight def.body ≤ 64
    → VerdictMatches s l (verdict_of (def_in s l p)) (check_def def)
def_matches def h m = verdict_matches (def_right def h m)
