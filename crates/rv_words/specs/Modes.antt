-- How harts may hold one page at once.
use Rattle.std.specs.Prelude.{Bool, true, false}
use Rattle.rv_words.specs.declared.shared.Mode.{Mode}
use Rattle.rv_words.specs.declared.shared.Mode.TheVariants.{Read, Write}

-- two modes conflict where one of them is Write
abbrev pub conflicts : Mode → Mode → Bool
conflicts Write other = true
conflicts Read Write = true
conflicts Read Read = false
