-- What a substitution charges, and what it writes: runs, and generated names.
-- Assumes nothing.
use Rattle.std.specs.Prelude.{ℕ, ◌+◌, ◌*◌, ◌%◌, List, leb, Option, Some, None}
use Rattle.std.proofs.Math.Seq.{slice}
use Rattle.tape.specs.Pick.{pick}
use Rattle.nodes.specs.Node.{name_at}
use Rattle.tape.specs.declared.layout.Layout.{Layout}
use Rattle.tape.specs.declared.layout.Place.{Place}
use Rattle.nodes.specs.declared.Name.{Name}
use Rattle.definition.specs.Substitute.{generated}
use Rattle.area.specs.Area.{Area, area_in, append_in, put_text_in}
use Rattle.messages.specs.Reason.{refused_at}
use Rattle.messages.specs.declared.Reason.TheVariants.{Budget}
use Rattle.messages.specs.declared.Refused.{Refused}
use Rattle.walk_state.specs.Writing.{Progress, progress, state, going, after}
use Rattle.walk_state.specs.Walk.{State}
use Rattle.walk_state.specs.Walk.{Walk}
use Rattle.walk_state.specs.Walk as walk
use Rattle.subst_state.specs.declared.maps.Argument.{Argument}
use Rattle.subst_state.specs.Maps.{SubstMaps}

-- ------------------------------------------------------------------ the budget

-- "a charge that would take it above the limit .. is not added"
unfoldable pub charge_of : ℕ → ℕ → ℕ → Option ℕ
charge_of limit charged n = pick (leb (charged + n) limit) (Some (charged + n)) None

abbrev pub on_charged : Refused → State → Option ℕ → Walk
on_charged r st (Some charged) = walk.Going (state st.place st.out charged)
on_charged r st None = walk.Refused r st.charged

-- 35 has the call's span
unfoldable pub charged_for : SubstMaps → ℕ → State → Walk
charged_for m n st =
    on_charged (refused_at m.call_span (Budget m.limit)) st (charge_of m.limit st.charged n)

-- ------------------------------------------------------------------ runs

-- the entries from one place to another of a slice with a layout
unfoldable pub copy_in : List ℕ → Layout → Place → Place → Area → Area
copy_in s l from to P =
    append_in (slice (l.codes + from.at) (l.codes + to.at) s)
    (slice (l.values + 8 * from.at) (l.values + 8 * to.at) s)
    (slice (l.text + from.text) (l.text + to.text) s) P

-- the body's own entries up to `next`
unfoldable pub copy_own_in : List ℕ → SubstMaps → State → Place → List ℕ → Progress
copy_own_in def m st next bytes =
    going next st.charged (copy_in def m.definition st.place next (area_in st.out bytes))

-- an argument, in the place of what ends at `next`
unfoldable pub paste_in : List ℕ → SubstMaps → Argument → Place → Progress → Progress
paste_in call m arg next =
    after λ st bytes. going next st.charged (copy_in call m.call arg.from arg.to (area_in st.out bytes))

-- charged, and then copied
unfoldable pub charge_paste_in : List ℕ → SubstMaps → Argument → State → Place → List ℕ → Progress
charge_paste_in call m arg st next bytes = paste_in call m arg next (progress (charged_for m arg.size st) bytes)

-- ------------------------------------------------------------------ a binder's name

-- "`$t` becomes t, `$`, and the call's start"; and the file number, where it is not 0
unfoldable pub gensym_in : List ℕ → SubstMaps → ℕ → Name → State → Place → List ℕ → Progress
gensym_in def m code name st next bytes =
    going next st.charged
    (put_text_in code (generated (name_at def m.definition name) (m.call_span % 4294967296) m.file) (area_in st.out bytes))
