-- The line with the counts, which `salvage` writes last beside the new log. Its other lines are those of a list, listing/Lines.
-- Assumes nothing.
use Rattle.std.specs.Prelude.{ℕ, List, ◌++◌}
use Rattle.text.specs.Text.{item}
use Rattle.text.specs.Words.{words}

-- as `end 5 kept 2 left out 17 cut`: records kept, records left out, octets cut
abbrev pub end_line : ℕ → ℕ → ℕ → List ℕ
end_line kept left_out cut =
    item (words "end ") kept ++ item (words " kept ") left_out ++ item (words " left out ") cut ++ words " cut\n"
