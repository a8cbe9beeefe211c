use Rattle.std.proofs.Common.{inl, refl}
use Rattle.std.specs.Prelude.{string_bytes}
use Rattle.revirt_tool.proofs.Texts.{as_too_long, as_line, as_ending}
use Rattle.revirt_tool.specs.declared.ending.Ending.TheVariants.{Usage, ImageRefused, Malformed, OtherImage, Disorderly, Diverged, ShelfFault}
use Rattle.revirt_tool.proofs.ending.close.Goals as goal

pub returns-in-TooLong : goal.returns-in-TooLong
returns-in-TooLong g c =
    as_too_long c.args.ending _ _ c.in-TooLong.file c.print.result c.too_long.result.now c.in-TooLong.is c.too_long.ensures
    c.print.ensures

pub returns-in-ShelfFault : goal.returns-in-ShelfFault
returns-in-ShelfFault g c = as_ending c.args.ending ShelfFault _ _ c.print-in-ShelfFault.result c.in-ShelfFault.is (inl c.print-in-ShelfFault.ensures)

pub returns-in-Usage : goal.returns-in-Usage
returns-in-Usage g c =
    as_line (λ s. string_bytes s) c.format.result c.args.ending (Usage c.in-Usage.place) _ _ 1 c.print_line.result
    c.in-Usage.is refl refl refl c.format.ensures.ok c.print_line.ensures

pub returns-in-ImageRefused : goal.returns-in-ImageRefused
returns-in-ImageRefused g c =
    as_line (λ s. string_bytes s) c.format-in-ImageRefused.result c.args.ending (ImageRefused c.in-ImageRefused.rule) _ _ 2 c.print_line-in-ImageRefused.result
    c.in-ImageRefused.is refl refl refl c.format-in-ImageRefused.ensures.ok c.print_line-in-ImageRefused.ensures

pub returns-in-Malformed : goal.returns-in-Malformed
returns-in-Malformed g c =
    as_line (λ s. string_bytes s) c.format-line.result c.args.ending (Malformed c.in-Malformed.offset c.in-Malformed.rule) _ _ 6
    c.print_line-in-Malformed.result
    c.in-Malformed.is refl refl refl c.format-line.ensures.ok c.print_line-in-Malformed.ensures

pub returns-in-OtherImage : goal.returns-in-OtherImage
returns-in-OtherImage g c =
    as_line (λ s. string_bytes s) c.other_line.result c.args.ending (OtherImage c.in-OtherImage.log c.in-OtherImage.image) _ _ 10
    c.print_line-in-OtherImage.result
    c.in-OtherImage.is refl refl refl c.other_line.ensures c.print_line-in-OtherImage.ensures

pub returns-in-Disorderly : goal.returns-in-Disorderly
returns-in-Disorderly g c =
    as_line (λ s. string_bytes s) c.disorderly_line.result c.args.ending (Disorderly c.in-Disorderly.rule c.in-Disorderly.hart c.in-Disorderly.entry) _ _ 7
    c.print_line-in-Disorderly.result
    c.in-Disorderly.is refl refl refl c.disorderly_line.ensures c.print_line-in-Disorderly.ensures

pub returns-in-Diverged : goal.returns-in-Diverged
returns-in-Diverged g c =
    as_line (λ s. string_bytes s) c.format-line-in-Diverged.result c.args.ending (Diverged c.in-Diverged.hart c.in-Diverged.count c.in-Diverged.rule) _ _ 8
    c.print_line-in-Diverged.result
    c.in-Diverged.is refl refl refl c.format-line-in-Diverged.ensures.ok c.print_line-in-Diverged.ensures
