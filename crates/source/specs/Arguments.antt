-- Numbers for what the code answers of a word of the command line.
-- Assumes nothing.
use Rattle.std.specs.Prelude.{ℕ}
use Rattle.source.specs.declared.Argument.{Argument}
use Rattle.source.specs.declared.Argument.TheVariants.{File, Standard, Other}

-- 1 a file's name; 2 `-`, which is standard input; 3 another word that begins with `-`
abbrev pub number_of : Argument → ℕ
number_of File = 1
number_of Standard = 2
number_of Other = 3
