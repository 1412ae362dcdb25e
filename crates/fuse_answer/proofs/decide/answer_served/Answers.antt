use Rattle.std.proofs.Common.{ap}
use Rattle.fuse_wire.specs.Reads.{asked_of, op_said}
use Rattle.fuse_wire.specs.Requests.{lookup, getattr, readlink, open_file, read, opendir, readdir, readdirplus, getxattr, listxattr}
use Rattle.fuse_answer.proofs.AtNodes.{decided_at}
use Rattle.fuse_answer.proofs.decide.answer_served.Goals as goal

pub returns-in-Lookup : goal.returns-in-Lookup
returns-in-Lookup g c =
    decided_at c.args.table.now c.args.agreed (asked_of c.args.request.now) (lookup c.in-Lookup.name.now) (ap op_said c.in-Lookup.is)
    c.requires c.look_up.result c.look_up.ensures

pub returns-in-Getattr : goal.returns-in-Getattr
returns-in-Getattr g c = decided_at c.args.table.now c.args.agreed (asked_of c.args.request.now) getattr (ap op_said c.in-Getattr.is)
    c.requires c.get_attr.result (c.get_attr.ensures c.args.agreed)

pub returns-in-Readlink : goal.returns-in-Readlink
returns-in-Readlink g c = decided_at c.args.table.now c.args.agreed (asked_of c.args.request.now) readlink (ap op_said c.in-Readlink.is)
    c.requires c.read_link.result (c.read_link.ensures c.args.agreed)

pub returns-in-Open : goal.returns-in-Open
returns-in-Open g c =
    decided_at c.args.table.now c.args.agreed (asked_of c.args.request.now) (open_file c.in-Open.flags) (ap op_said c.in-Open.is) c.requires
    c.open_file.result c.open_file.ensures

pub returns-in-Read : goal.returns-in-Read
returns-in-Read g c =
    decided_at c.args.table.now c.args.agreed (asked_of c.args.request.now) (read c.in-Read.offset c.in-Read.size) (ap op_said c.in-Read.is)
    c.requires c.read.result (c.read.ensures c.args.agreed)

pub returns-in-Opendir : goal.returns-in-Opendir
returns-in-Opendir g c = decided_at c.args.table.now c.args.agreed (asked_of c.args.request.now) opendir (ap op_said c.in-Opendir.is)
    c.requires c.open_directory.result c.open_directory.ensures

pub returns-in-Readdir : goal.returns-in-Readdir
returns-in-Readdir g c =
    decided_at c.args.table.now c.args.agreed (asked_of c.args.request.now) (readdir c.in-Readdir.offset c.in-Readdir.size)
    (ap op_said c.in-Readdir.is) c.requires c.list.result (c.list.ensures c.args.agreed)

pub returns-in-Readdirplus : goal.returns-in-Readdirplus
returns-in-Readdirplus g c =
    decided_at c.args.table.now c.args.agreed (asked_of c.args.request.now) (readdirplus c.in-Readdirplus.offset c.in-Readdirplus.size)
    (ap op_said c.in-Readdirplus.is) c.requires c.list-in-Readdirplus.result (c.list-in-Readdirplus.ensures c.args.agreed)

pub returns-in-Getxattr : goal.returns-in-Getxattr
returns-in-Getxattr g c =
    decided_at c.args.table.now c.args.agreed (asked_of c.args.request.now) (getxattr c.in-Getxattr.size c.in-Getxattr.name.now)
    (ap op_said c.in-Getxattr.is) c.requires c.get_xattr.result c.get_xattr.ensures

pub returns-in-Listxattr : goal.returns-in-Listxattr
returns-in-Listxattr g c =
    decided_at c.args.table.now c.args.agreed (asked_of c.args.request.now) (listxattr c.in-Listxattr.size) (ap op_said c.in-Listxattr.is)
    c.requires c.list_xattrs.result c.list_xattrs.ensures
