use Rattle.std.proofs.Common.{◌∙◌, sym, refl}
use Rattle.romfs_rules.proofs.Leads.{down_open}
use Rattle.romfs_rules.proofs.lead.first_below.Goals as goal

pub returns : goal.returns
returns c = down_open c.args.volume.now.bytes.now c.args.at _ (λ e. c.if-at-volume.false (e ∙ sym c.args.volume.now.rooted))
    (c.if-not-opens.ensures.0 refl) c.first_of.ensures
