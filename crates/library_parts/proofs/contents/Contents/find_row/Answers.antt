use Rattle.parts_model.specs.Rows.{ReadsRows}
use Rattle.library_parts.proofs.contents.Contents.find_row.Goals as goal

pub join_of-requires : goal.join_of-requires
join_of-requires c = rw (← c.self.view_is) at c.requires.defaults

pub row_in-requires : goal.row_in-requires
row_in-requires c = (
  c.args.view.now,
  record {
    file = c.args.file.now;
    there = c.requires.there;
    join = c.requires.join;
    by = c.requires.reads.by;
    rows = c.requires.reads.rows;
    defaults = c.requires.defaults;
    is = rw (← c.self.view_is) c.in_ok-spec.ensures;
  },
  c.requires.asked,
)

pub returns : goal.returns
returns c =
    let reads : ReadsRows c.args.self.now.state.files c.args.self.now.room.paths.paths c.args.opened.now c.args.view.now c.in_ok-spec.spec = record {
      file = c.args.file.now;
      there = c.requires.there;
      join = c.requires.join;
      by = c.requires.reads.by;
      rows = c.requires.reads.rows;
      defaults = c.requires.defaults;
      is = rw (← c.self.view_is) c.in_ok-spec.ensures;
    } in
    c.in_ok-found.ensures c.args.view.now reads
