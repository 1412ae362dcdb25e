use Rattle.std.proofs.Common.{rules, ◌≡◌, ◌≢◌, ap, sym, ◌∙◌, None}
use Rattle.std.proofs.lemmas.List.{append-nil}
use Rattle.romfs_format.specs.declared.head.Head.{Head}
use Rattle.romfs_format.specs.declared.head.Kind.TheVariants.{Directory}
use Rattle.romfs_format.specs.Fields.{kind}
use Rattle.layer_paths.proofs.Listed.{kind_read}
use Rattle.layer_tree.proofs.Entering.{no_directory, entered}
use Rattle.layer_tree.proofs.Folding.{single}
use Rattle.layer_tree.proofs.reading.add_file.Goals as goal

pub returns : goal.returns
returns g c =
    let a = c.args.layer.now.image.now in
    let e : c.in_ok-own_name.own_name ≡ c.args.name.now = c.in_ok-own_name.ensures in
    let read = c.requires.read in
    let other : kind a c.args.head.now.offset ≢ Directory = λ k. c.requires.other (ap (λ (x : Head). x.kind) read.given.is ∙ k) in
    let entry = entered a c.args.layer.now.number c.args.head.now.offset c.in_ok-end.end
    c.entry_at-entry.result (search rules) (search rules) c.entry_at-entry.ensures in
    let file : c.entry_at-entry.result.kind ≢ Directory = λ k. no_directory a read.sound c.args.head.now.offset
    c.entry_at-entry.result.place.header read.given.from other entry.final
    (sym (kind_read a c.entry_at-entry.result entry.is_read) ∙ k) in
    record {
      made = record {
        made = (c.leaf.result, None);
        is = rw (c.leaf.ensures, e)
            (single a read.sound c.args.layer.now.number c.args.head.now.offset c.args.name.now
            c.entry_at-entry.result other file entry);
        entries = c.in_ok-push.ensures.items;
        marks = sym (append-nil c.args.to.now.marks.items);
      };
      ends = search rules;
    }
