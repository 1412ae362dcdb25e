use Rattle.std.proofs.Common.{rules, ◌∙◌, sym, refl}
use Rattle.romfs_reader.proofs.Readings.{empty_members, chain_members, chain_given, chain_walk}
use Rattle.romfs_reader.proofs.parts.members_of.Goals as goal

pub returns-then-leads_to_itself-clause-directory :
    goal.returns-then-leads_to_itself-clause-directory
returns-then-leads_to_itself-clause-directory c =
    let y = c.if-leads_to_itself.ensures.yes (search rules) in
    λ k. rw c.new-then-leads_to_itself.ensures (empty_members c.args.image.now c.requires.image
    c.args.directory.now c.requires.given k _ refl y.0 (λ e. y.1 (e ∙ sym c.requires.root)))

pub new-requires-2 : goal.new-requires-2
new-requires-2 c =
    let n = c.if-leads_to_itself.ensures.no (search rules) in
    chain_walk c.args.image.now c.requires.image c.args.directory.now c.requires.given (search rules)
    c.cleared.result c.args.root c.cleared.ensures
    (λ e. c.cleared.ensures ∙ n (sym c.cleared.ensures ∙ e) ∙ c.requires.root) c.requires.root

pub returns-clause-directory : goal.returns-clause-directory
returns-clause-directory c =
    let n = c.if-leads_to_itself.ensures.no (search rules) in
    λ k. rw c.new-2.ensures (chain_members c.args.image.now c.requires.image c.args.directory.now
    c.requires.given k c.cleared.result c.cleared.ensures
    (λ e. c.cleared.ensures ∙ n (sym c.cleared.ensures ∙ e) ∙ c.requires.root))

pub returns-clause-given : goal.returns-clause-given
returns-clause-given c =
    let n = c.if-leads_to_itself.ensures.no (search rules) in
    rw c.new-2.ensures (chain_given c.args.image.now c.requires.image c.args.directory.now c.requires.given
    (search rules) c.cleared.result c.cleared.ensures
    (λ e. c.cleared.ensures ∙ n (sym c.cleared.ensures ∙ e) ∙ c.requires.root))
