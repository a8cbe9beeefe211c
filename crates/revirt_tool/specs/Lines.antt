-- The lines of refusals (docs/command-line.md).
use Rattle.std.specs.Prelude.{ℕ, List, ◌++◌, codes}
use Rattle.std.specs.Fmt.{decimal}
use Rattle.hex.specs.Hex.{encode_lower}
use Rattle.revirt_tool.specs.declared.ending.File.{File}
use Rattle.revirt_tool.specs.declared.ending.File.TheVariants.{Image, Log}

abbrev pub usage_line : ℕ → List ℕ
usage_line place = codes "usage: word " ++ (decimal place ++ codes "\n")

abbrev pub too_long_line : File → List ℕ
too_long_line Image = codes "too long: image\n"
too_long_line Log = codes "too long: log\n"

abbrev pub image_line : ℕ → List ℕ
image_line rule = codes "image refused: I" ++ (decimal rule ++ codes "\n")

abbrev pub malformed_line : ℕ → ℕ → List ℕ
malformed_line offset rule = codes "malformed: offset " ++ (decimal offset ++ (codes " rule M" ++ (decimal rule ++ codes "\n")))

abbrev pub orderly_line : List ℕ
orderly_line = codes "orderly\n"

abbrev pub disorderly_line : ℕ → ℕ → ℕ → List ℕ
disorderly_line rule hart entry =
    codes "disorderly: rule O" ++ (decimal rule ++ (codes " hart " ++ (decimal hart ++ (codes " entry " ++ (decimal entry ++ codes "\n")))))

-- the start digests that a log names and that an image has
abbrev pub other_line : List ℕ → List ℕ → List ℕ
other_line log image = codes "other image: " ++ (encode_lower log ++ (codes " " ++ (encode_lower image ++ codes "\n")))

abbrev pub diverged_line : ℕ → ℕ → ℕ → List ℕ
diverged_line hart count rule =
    codes "diverged: hart " ++ (decimal hart ++ (codes " count " ++ (decimal count ++ (codes " rule V" ++ (decimal rule ++ codes "\n")))))

abbrev pub no_memory_line : List ℕ
no_memory_line = codes "no memory\n"
