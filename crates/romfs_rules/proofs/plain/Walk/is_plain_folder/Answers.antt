use Rattle.std.proofs.Common.{◌∙◌, ap, subst}
use Rattle.std.proofs.lemmas.Result.{IfOk-weaker}
use Rattle.romfs_rules.specs.Names.{HaveNamesApart}
use Rattle.romfs_rules.proofs.plain.Walk.is_plain_folder.Goals as goal

pub is_plain_chain-requires-clause-inside : goal.is_plain_chain-requires-clause-inside
is_plain_chain-requires-clause-inside g c = c.requires.inside

pub is_plain_chain-requires-clause-sized : goal.is_plain_chain-requires-clause-sized
is_plain_chain-requires-clause-sized g c = c.requires.sized

pub have_names_apart-requires-clause-inside : goal.have_names_apart-requires-clause-inside
have_names_apart-requires-clause-inside g c = λ i l.
    let chain = c.in_ok-is_plain_chain.ensures c.if-not-branch.false in
    let heads = c.deref.ensures.value ∙ ap (λ walk. walk.heads) c.self.view_is in
    rw heads (chain.front.each i (rw heads at l)).plain.inside.1

pub have_names_apart-requires-clause-hashes : goal.have_names_apart-requires-clause-hashes
have_names_apart-requires-clause-hashes g c =
    let chain = c.in_ok-is_plain_chain.ensures c.if-not-branch.false in
    let heads = c.deref.ensures.value ∙ ap (λ walk. walk.heads) c.self.view_is in
    let hashes = c.deref-2.ensures.value ∙ ap (λ walk. walk.hashes) c.self.view_is in
    rw (heads, hashes) chain.hashed

pub returns : goal.returns
returns g c =
    let chain = c.in_ok-is_plain_chain.ensures c.if-not-branch.false in
    let heads = c.deref.ensures.value ∙ ap (λ walk. walk.heads) c.self.view_is in
    IfOk-weaker c.have_names_apart.result _ _
    (λ b apart t. record { chain = chain; apart = subst (HaveNamesApart c.args.volume.now.bytes.now) heads (apart t) })
    c.have_names_apart.ensures
