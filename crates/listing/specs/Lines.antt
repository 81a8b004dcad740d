-- The lines that `linelist` prints, document 01, "The log".
-- Assumes nothing.
use Rattle.std.specs.Prelude.{ℕ, List, ◌++◌}
use Rattle.text.specs.Text.{item}
use Rattle.text.specs.Words.{words}

-- as `format 86 2 0`
abbrev pub format_line : ℕ → ℕ → ℕ → List ℕ
format_line octet channels order = item (words "format ") octet ++ item (words " ") channels ++ item (words " ") order ++ words "\n"

-- as `0 sound 0 number 0`: "A sound line gives record, missing count, number"
abbrev pub sound_line : ℕ → ℕ → ℕ → List ℕ
sound_line index missing number =
    item (words "") index ++ item (words " sound ") missing ++ item (words " number ") number ++ words "\n"

-- as `1 refused 9`
abbrev pub refused_line : ℕ → ℕ → List ℕ
refused_line index refusal = item (words "") index ++ item (words " refused ") refusal ++ words "\n"

-- "A framing fault after the header prints `k broken r`"
abbrev pub broken_line : ℕ → ℕ → List ℕ
broken_line index refusal = item (words "") index ++ item (words " broken ") refusal ++ words "\n"

-- as `end 1 sound 0 missing 1 refused`
abbrev pub end_line : ℕ → ℕ → ℕ → List ℕ
end_line sound missing refused =
    item (words "end ") sound ++ item (words " sound ") missing ++ item (words " missing ") refused ++ words " refused\n"

-- "A fault in the header .. prints only `log refused r`"
abbrev pub log_refused_line : ℕ → List ℕ
log_refused_line refusal = item (words "log refused ") refusal ++ words "\n"
