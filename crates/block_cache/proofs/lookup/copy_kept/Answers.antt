use Rattle.std.proofs.Common.{◌≡◌, ◌∙◌, IsTrue, nat_eq, List, sym, subst}
use Rattle.entry_codec.specs.declared.entries.Entry.{Entry}
use Rattle.block_cache.specs.Cached.{IsStretch, has_entry}
use Rattle.block_cache.proofs.Keys.{key_found, shown-is, shown-some, value_has, value_of}
use Rattle.block_cache.proofs.lookup.copy_kept.Goals as goal

pub unwrap-requires : goal.unwrap-requires
unwrap-requires c =
    let it = key_found c.args.lo c.args.key c.args.blocks.now.entries c.len-count.ensures.valid.0 c.requires.key in
    shown-some c.peek.result it.0 (c.peek.ensures ∙ it.1)

pub copy-requires : goal.copy-requires
copy-requires c =
    let it = key_found c.args.lo c.args.key c.args.blocks.now.entries c.len-count.ensures.valid.0 c.requires.key in
    let same = shown-is c.peek.result c.unwrap.result it.0 c.unwrap.ensures (c.peek.ensures ∙ it.1) in
    record { has = subst (λ (l : List Entry). IsTrue (has_entry c.args.lo l)) (sym same) it.2; some = c.requires.some }

pub returns : goal.returns
returns c =
    let es = c.args.blocks.now.entries in
    let key = c.args.key in
    let it = key_found c.args.lo key es c.len-count.ensures.valid.0 c.requires.key in
    let same = shown-is c.peek.result c.unwrap.result it.0 c.unwrap.ensures (c.peek.ensures ∙ it.1) in
    let told = c.in_ok-reached.ensures in
    let reached = c.in_ok-reached.reached in
    record {
      from = told.from;
      upto = told.upto;
      has = value_has (nat_eq key) reached es it.0 it.1 (subst (λ (l : List Entry). IsTrue (has_entry reached l)) same told.has);
      copied = λ first all are.
          told.copied first all (subst (λ (l : List Entry). IsStretch first all l) (sym same) (value_of (nat_eq key) (IsStretch first all) es it.0 it.1 are));
    }
