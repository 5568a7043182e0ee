-- Where a registry stands, the list of the places' verdicts is the definitions' list, and the verdict at an index is the check of the
-- definition there.
-- Assumes nothing.
use Rattle.std.proofs.Common.{Result, Ok, Err}
use Prim.Native.Nat.{ℕ, zero, suc, ◌+◌, ◌*◌, min, ◌≤◌}
use native.Mathlib.Omega.{arith}
use mathlib.Core.Path.{◌≡◌, refl, ap, ◌∙◌}
use mathlib.Core.List.{List, [], ◌++◌}
use mathlib.Core.Bool.{Bool, true, false}
use mathlib.Core.Option.{none, some}
use lib.ListN.{length, take, length-take}
use lib.Seq.{length-sets}
use Rattle.format.specs.Entry.{le}
use Rattle.format.specs.Ast.{MacroDef}
use Rattle.format.specs.Limits.{node_weight, deep_bodies}
use Rattle.definition.specs.Outcome.{Refusal, pure, span_start, span_end}
use Rattle.definition.specs.Check as definition
use Rattle.definition.specs.Check.{◌and_then◌, check_def}
use Rattle.definition.specs.Registry.{build}
use Rattle.definition.specs.Expand.{unless}
use Rattle.definition.specs.Answers.{padded}
use Rattle.definition.specs.Library.{in_front, refused_from, refused_of, refused_bytes, list_bytes, definition_at, check_found}
use Rattle.buffer.specs.Buffer.{Message, message_in, write_in, zeroed}
use Rattle.buffer.proofs.Messages.{write_append, written_zeroed}
use Rattle.nodes.specs.Node.{span_of}
use Rattle.tape.specs.Layouts.{holds}
use Rattle.tape.specs.Pick.{pick}
use Rattle.tape.specs.declared.layout.Layout.{Layout}
use Rattle.messages.specs.declared.Refused as code
use Rattle.answer.specs.Matches.{RefusalMatches, VerdictMatches}
use Rattle.registry.specs.Places.{and_then_in, origin, rows_from, index_at, build_at}
use Rattle.registry.specs.declared.rows.Row.{Row}
use Rattle.registry.proofs.Standing.{Indexed, indexed_nil, indexed_cons}
use Rattle.registry.proofs.Verdicts.{build_matches}
use Rattle.check_body.specs.Definition.{def_in, verdict_of}
use Rattle.check_body.proofs.Definitions.{def_matches}
use Rattle.check_library.specs.Rows.{verdict_at, checked_in, row_of, put_in, Listing, put_from, on_names, listed_in, ListMatches}
use Rattle.check_library.proofs.AsGiven.{library_of, check_of}

-- ------------------------------------------------------------------ one definition

both_match : (s : List ℕ) (l : Layout) (v v' : Result Unit code.Refused) (w w' : definition.Verdict) → VerdictMatches s l v w → VerdictMatches s l v' w'
    → VerdictMatches s l (and_then_in v v') (w and_then w')
unfolding VerdictMatches ◌and_then◌
both_match s l (Ok tt) v' none w' h k = k
both_match s l (Ok tt) v' (some r) w' h k = absurd h
both_match s l (Err f) v' none w' h k = absurd h
both_match s l (Err f) v' (some r) w' h k = h

module _ {s : List ℕ} {l : Layout} where
  found_matches : {rs : List Row} {ds : List MacroDef} → Indexed s l rs ds → deep_bodies node_weight ds ≤ 64 → (i : ℕ)
      → VerdictMatches s l (verdict_at s l rs i) (check_found (definition_at ds i))
  unfolding verdict_at check_found definition_at deep_bodies VerdictMatches
  found_matches indexed_nil m i = tt
  found_matches (indexed_cons {d = d} at k h) m zero = def_matches d at (omega arith)
  found_matches (indexed_cons at k h) m (suc i) = found_matches h (omega arith) i

  pub checked_matches : {ds : List MacroDef} (i : ℕ) → Indexed s l (index_at s l 255) ds → deep_bodies node_weight ds ≤ 64
      → VerdictMatches s l (checked_in s l 255 i) (check_of i ds)
  unfolding checked_in check_of
  checked_matches {ds} i h m =
      both_match s l (build_at s l (index_at s l 255)) (verdict_at s l (index_at s l 255) i) (build ds) (check_found (definition_at ds i))
      (build_matches h) (found_matches h m i)

-- ------------------------------------------------------------------ the list

-- a message that ends in its buffer
abbrev Ends : Message → Type 0
Ends m = m.end ≤ length m.bytes

write_nothing : (m : Message) → Ends m → m ≡ write_in [] m
unfolding write_in
write_nothing m h = let e : m.end ≡ min (length m.bytes) (m.end + 0) = omega arith in ap (message_in m.bytes) e

write_ends : (xs : List ℕ) (m : Message) → Ends (write_in xs m)
unfolding write_in
write_ends xs m = omega (arith, length-sets m.bytes m.end xs)

-- the row of a refusal is the one that the definition lists
row_of_lem : {s : List ℕ} {l : Layout} (i : ℕ) (f : code.Refused) (r : Refusal) → RefusalMatches s l s l f r
    → row_of i f ≡ refused_bytes (record { index = i; why = r })
unfolding row_of refused_bytes span_of span_start span_end
row_of_lem i f r h = rw (h.its_number, h.its_span) refl

module _ {s : List ℕ} {l : Layout} where
  put_right : {rs : List Row} {ds : List MacroDef} → Indexed s l rs ds → deep_bodies node_weight ds ≤ 64 → (i : ℕ) (m : Message) → Ends m
      → put_from s l i rs m ≡ write_in (list_bytes (refused_from i ds)) m
  unfolding put_from refused_from list_bytes deep_bodies VerdictMatches put_in in_front
  put_right indexed_nil deep i m h = write_nothing m h
  put_right (indexed_cons {r = r} {rs = rs} {d = d} {ds = ds} at k more) deep i m h =
      go (verdict_of (def_in s l r.place)) (check_def d) (def_matches d at (omega arith)) (put_right more (omega arith) (suc i))
    where
      go : (v : Result Unit code.Refused) (w : definition.Verdict) → VerdictMatches s l v w
          → ((m : Message) → Ends m → put_from s l (suc i) rs m ≡ write_in (list_bytes (refused_from (suc i) ds)) m)
          → put_from s l (suc i) rs (put_in i v m) ≡ write_in (list_bytes (in_front i w (refused_from (suc i) ds))) m
      go (Ok tt) none match rest = rest m h
      go (Ok tt) (some x) match rest = absurd match
      go (Err f) none match rest = absurd match
      go (Err f) (some x) match rest =
          let tail : List ℕ = list_bytes (refused_from (suc i) ds) in
          rest (write_in (row_of i f) m) (write_ends (row_of i f) m)
          ∙ write_append (row_of i f) tail m
          ∙ ap (λ (row : List ℕ). write_in (row ++ tail) m) (row_of_lem i f x match)

  -- 16 bytes a row at the most
  list_length : {rs : List Row} {ds : List MacroDef} → Indexed s l rs ds → (i : ℕ) → length (list_bytes (refused_from i ds)) ≤ 16 * length rs
  unfolding refused_from list_bytes in_front refused_bytes le
  list_length indexed_nil i = omega arith
  list_length (indexed_cons {rs = rs} {d = d} {ds = ds} at k more) i = go (check_def d) (list_length more (suc i))
    where
      go : (w : definition.Verdict) → length (list_bytes (refused_from (suc i) ds)) ≤ 16 * length rs
          → length (list_bytes (in_front i w (refused_from (suc i) ds))) ≤ 16 * suc (length rs)
      go none h = omega arith
      go (some x) h = omega arith

index_length : (s : List ℕ) (l : Layout) (room : ℕ) → length (index_at s l room) ≤ room
unfolding index_at
index_length s l room = go (holds s l)
  where
    rows : List Row
    rows = rows_from s l l.entries origin

    go : (b : Bool) → length (pick b (take room rows) []) ≤ room
    go true = omega (arith, length-take room rows)
    go false = omega arith

module _ {s : List ℕ} {l : Layout} {ds : List MacroDef} (h : Indexed s l (index_at s l 255) ds) (deep : deep_bodies node_weight ds ≤ 64) (list : List ℕ) where
  abbrev put : Message
  put = put_from s l 0 (index_at s l 255) (message_in list 0)

  list_zeroed : 4080 ≤ length list → zeroed put.bytes put.end ≡ padded (length list) (list_bytes (refused_of ds))
  unfolding refused_of
  list_zeroed room =
      written_zeroed list put.bytes put.end (list_bytes (refused_from 0 ds)) (put_right h deep 0 (message_in list 0) (omega arith))
      (omega (arith, list_length h 0, index_length s l 255, room))

  pub list_matches : 4080 ≤ length list
      → ListMatches s l (listed_in s l 255 list).verdict (listed_in s l 255 list).bytes (length list) (library_of ds)
  unfolding listed_in library_of VerdictMatches ListMatches unless
  list_matches room = go (build_at s l (index_at s l 255)) (build ds) (build_matches h)
    where
      go : (v : Result Unit code.Refused) (w : definition.Verdict) → VerdictMatches s l v w
          → let x : Listing = on_names put list v in ListMatches s l x.verdict x.bytes (length list) (unless w (pure (refused_of ds)) 0)
      go (Ok tt) none match = (refl, list_zeroed room)
      go (Ok tt) (some r) match = absurd match
      go (Err f) none match = absurd match
      go (Err f) (some r) match = (refl, match)
