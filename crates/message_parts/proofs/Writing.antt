-- A message that is written in several pieces is written whole.
-- Assumes nothing.
use mathlib.Core.Path.{◌≡◌, refl, sym, ap, ◌∙◌}
use mathlib.Core.List.{List, [], ◌∷◌, ◌++◌, append-nil, append_assoc, flatten}
use Rattle.format.specs.Entry.{Text}
use Rattle.buffer.specs.declared.message.Message.{Message as Writer}
use Rattle.buffer.specs.Buffer.{Message, write_in}
use Rattle.buffer.specs.Message.{Puts}
use Rattle.buffer.proofs.Messages.{write_append}
use Rattle.message_parts.specs.Write.{Writes, PutsAll}

flatten_append : (ts us : List Text) → flatten (ts ++ us) ≡ flatten ts ++ flatten us
unfolding flatten
flatten_append [] us = refl
flatten_append (t ∷ ts) us = ap (◌++◌ t) (flatten_append ts us) ∙ sym (append_assoc t (flatten ts) (flatten us))

pub piece : {t : Text} {m m' : Message} → m' ≡ write_in t m → Writes (t ∷ []) m m'
unfolding flatten
piece {t} e = record { all = rw append-nil e }

infixr 20 ◌then◌
pub ◌then◌ : {ts us : List Text} {m m₁ m₂ : Message} → Writes ts m m₁ → Writes us m₁ m₂ → Writes (ts ++ us) m m₂
◌then◌ {ts} {us} {m} p q =
    record {
      all = q.all ∙ ap (write_in (flatten us)) p.all ∙ write_append (flatten ts) (flatten us) m
          ∙ ap (λ (t : Text). write_in t m) (sym (flatten_append ts us));
    }

pub two_pieces : {t u : Text} {m m₁ m₂ : Message} → m₁ ≡ write_in t m → m₂ ≡ write_in u m₁ → Writes (t ∷ u ∷ []) m m₂
two_pieces a b = piece a then piece b

-- a piece, and those behind it
pub behind : {t : Text} {ts : List Text} {m m₁ m₂ : Message} → m₁ ≡ write_in t m → m₂ ≡ write_in (flatten ts) m₁ → Writes (t ∷ ts) m m₂
behind {ts} a w = piece a then record { all = w }

-- two names with what stands about them
pub joined : {t u v w x : Text} {m m₁ m₂ : Message} → m₁ ≡ write_in (flatten (t ∷ u ∷ v ∷ [])) m → m₂ ≡ write_in (flatten (w ∷ x ∷ [])) m₁
    → Writes (t ∷ u ∷ v ∷ w ∷ x ∷ []) m m₂
joined {t} {u} {v} {w} {x} {m} {m₁} {m₂} a b =
    let p : Writes (t ∷ u ∷ v ∷ []) m m₁ = record { all = a } in
    let q : Writes (w ∷ x ∷ []) m₁ m₂ = record { all = b } in
    p then q

pub whole : {ts : List Text} {m m' : Message} {t : Text} → Writes ts m m' → flatten ts ≡ t → m' ≡ write_in t m
whole {ts} {m} w e = w.all ∙ ap (λ (t : Text). write_in t m) e

-- ------------------------------------------------------------------ the same of a writer, in the slice that it was lent

pub put : {t : Text} {w w' : Writer} → Puts t w w' → PutsAll (t ∷ []) w w'
put p = record { same_slice = p.same_slice; written = piece p.written }

infixr 20 ◌and◌
pub ◌and◌ : {ts us : List Text} {w w₁ w₂ : Writer} → PutsAll ts w w₁ → PutsAll us w₁ w₂ → PutsAll (ts ++ us) w w₂
◌and◌ p q = record { same_slice = q.same_slice ∙ p.same_slice; written = p.written then q.written }

pub wrote : {ts : List Text} {w w' : Writer} {t : Text} → PutsAll ts w w' → flatten ts ≡ t → Puts t w w'
wrote p e = record { same_slice = p.same_slice; written = whole p.written e }
