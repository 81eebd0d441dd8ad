use Rattle.std.proofs.Common.{sym, subst, refl}
use Rattle.file_cursor.specs.Reading.{AreNumbered}
use Rattle.file_cursor.proofs.keyed.next.Goals as goal

pub next-requires : goal.next-requires
next-requires c =
    subst AreNumbered (sym c.pages.ensures) (c.if-is_by_number.ensures.by_number refl c.args.path.now c.requires)
