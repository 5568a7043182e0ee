-- Document 01, module 3: "Declared names come in byte order, each once, as `?a, ?b`", and so "still" with accents (document 02,
-- point 4). As relations of texts and lists, of which `fmt_params` of Messages.antt is the only reading: `declared_names` of
-- proofs/Declared.antt. The declared names are "the definition's own", which Check.antt hands on.
-- Assumes nothing.
use Rattle.std.specs.Prelude.{ℕ, ◌<◌, ◌≡◌, ◌↔◌, List, [], ◌∷◌, ◌++◌}
use Rattle.format.specs.Entry.{Text}
use Rattle.format.specs.Names.{◌∈◌}
use Rattle.definition.specs.Text.{utf8}
use Rattle.definition.specs.Messages.{fmt_params}

-- "byte order": the first byte that differs decides, and a text comes before those that it begins
pub data Before : Text → Text → Type 0 where
  ends : {b : ℕ} {t : Text} → Before [] (b ∷ t)
  lower : {a b : ℕ} {s t : Text} → a < b → Before (a ∷ s) (b ∷ t)
  behind : {a : ℕ} {s t : Text} → Before s t → Before (a ∷ s) (a ∷ t)

-- each name comes before all that stand behind it, so that none stands there twice
pub data Ascends : List Text → Type 0 where
  empty : Ascends []
  starts : {t : Text} {ts : List Text} → ((u : Text) → u ∈ ts → Before t u) → Ascends ts → Ascends (t ∷ ts)

-- "in byte order, each once": the declared names, all of them and no others
pub record InByteOrder (declared listed : List Text) : Type 0 where
  pub ascends : Ascends listed
  pub each : (name : Text) → name ∈ declared → name ∈ listed
  pub no_other : (name : Text) → name ∈ listed → name ∈ declared

-- "as `?a, ?b`"
pub data Shown : List Text → Text → Type 0 where
  none : Shown [] []
  last : {t : Text} → Shown (t ∷ []) (utf8 "?" ++ t)
  more : {t u : Text} {us : List Text} {rest : Text} → Shown (u ∷ us) rest → Shown (t ∷ u ∷ us) (utf8 "?" ++ (t ++ (utf8 ", " ++ rest)))

pub record Listing (declared : List Text) (text : Text) : Type 0 where
  pub listed : List Text
  pub in_order : InByteOrder declared listed
  pub shown : Shown listed text

-- what message 20 has for the declared names is such a listing, and there is no other
abbrev pub DeclaredNames : Type 0
DeclaredNames = (declared : List Text) (text : Text) → (text ≡ fmt_params declared) ↔ Listing declared text
