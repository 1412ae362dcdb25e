use Rattle.std.proofs.Common.{◌≡◌, ◌∙◌, ◌-◌, sym, ap, arith}
use Rattle.std.specs.List.{list_any}
use Rattle.romfs_format.specs.Extended.{Extended, is_acl_name}
use Rattle.romfs_format.specs.Part.{first_of, attributes}
use Rattle.romfs_rows.proofs.OneList.{within, numbered_run}
use Rattle.romfs_rows.proofs.file_xattrs.FileXattrs.has_acl.Goals as goal

pub has_acl-requires : goal.has_acl-requires
has_acl-requires c = omega (arith, c.first-end.ensures.value, within _ _ c.self.invariant)

pub returns : goal.returns
returns c =
    let y = c.self.inside.lists in
    let n = c.self.inside.number in
    let first : c.first-first.result ≡ first_of y (n - 1) = c.first-first.ensures.value in
    let end : c.first-end.result ≡ first_of y n = c.first-end.ensures.value in
    let any = list_any (λ (x : Extended). is_acl_name x.name) in
    c.has_acl.ensures ∙ rw (first, end) (ap any (sym (numbered_run y n c.self.invariant.above))) ∙ ap any c.self.view_is
