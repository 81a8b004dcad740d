-- What a cell's own entries hold: a sample marked 0 that isn't zero. A gap's entries are no part of it: they are zero and their marks
-- are 2.
-- Assumes nothing.
use Rattle.std.specs.Prelude.{Bool, false, not, ◌&&◌, ◌||◌, List, ℕ, zero, suc, eqb, length, get_or}
use Rattle.formats.specs.Formats.{format_of, settings_refusal}
use Rattle.cells.specs.Cells.{sample_in, mark_in, entries_of}
use Rattle.receiver.specs.declared.Receiver.{Receiver}
use Rattle.receiver.specs.Receiver.{times_now, used_now}

-- "a sample marked 0 that isn't zero"
unfoldable pub is_sound : ℕ → ℕ → Bool
is_sound sample mark = not (eqb sample 0) && eqb mark 0

-- a test that passes at a number below n
unfoldable pub some : (ℕ → Bool) → ℕ → Bool
some test zero = false
some test (suc n) = some test n || test n

-- two runs side by side, samples and their marks: such a sample at a place
unfoldable pub sound_at : List ℕ → List ℕ → ℕ → Bool
sound_at samples marks i = is_sound (get_or samples i 0) (get_or marks i 0)

-- "the cell's own entries": their samples and their marks
abbrev pub own_of : (ℕ → ℕ) → Receiver → List ℕ → List ℕ
own_of read st cell = entries_of read (format_of st.format) (eqb st.order 1) st.channels (times_now st) cell

abbrev pub own_samples : Receiver → List ℕ → List ℕ
own_samples st cell = own_of (sample_in (format_of st.format)) st cell

abbrev pub own_marks : Receiver → List ℕ → List ℕ
own_marks st cell = own_of (mark_in (format_of st.format)) st cell

-- settings that nothing refuses, and a cell of 48 octets
unfoldable pub readable : Receiver → List ℕ → Bool
readable st cell = eqb (settings_refusal st.format st.channels st.order) 0 && eqb (length cell) 48

-- one of the cell's own samples is marked 0 and isn't zero
unfoldable pub sounds_of : Receiver → List ℕ → Bool
sounds_of st cell = readable st cell && some (sound_at (own_samples st cell) (own_marks st cell)) (used_now st)
