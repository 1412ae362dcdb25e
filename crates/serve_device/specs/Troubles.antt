-- errno(3), fuse(4): the meaning of an error number of /dev/fuse, if an error has one.
use Rattle.std.specs.Prelude.{ℕ, ℤ, pos, negsuc, Bool, true, Option, Some, None, Result, Ok, Err, if◌then◌else◌, ◌==◌}
use Rattle.serve_device.specs.declared.trouble.Trouble.{Trouble}
use Rattle.serve_device.specs.declared.trouble.Trouble.TheVariants.{Again, Unwanted, Gone, Fault}

-- for a read: ENOENT (2), EINTR (4), EAGAIN (11) and ECONNABORTED (103) are tried again, and ENODEV
-- (19) means an unmount
abbrev pub read_number : ℤ → Trouble
read_number (pos n) =
    if n == 2 then Again else (if n == 4 then Again else
    (if n == 11 then Again else (if n == 103 then Again else
    (if n == 19 then Gone else Fault))))
read_number (negsuc n) = Fault

-- what an error of a read means; one without a number is a fault
abbrev pub read_trouble : Option ℤ → Trouble
read_trouble (Some number) = read_number number
read_trouble None = Fault

-- for a write: with ENOENT (2) no request waits for this reply, and ENODEV (19) means an unmount
abbrev pub write_number : ℤ → Trouble
write_number (pos n) = if n == 2 then Unwanted else (if n == 19 then Gone else Fault)
write_number (negsuc n) = Fault

-- what an error of a write means; one without a number is a fault
abbrev pub write_trouble : Option ℤ → Trouble
write_trouble (Some number) = write_number number
write_trouble None = Fault

-- whether a device is gone after a call, from whether it was and the result of the call
abbrev pub gone_after : Bool → Result ℕ Trouble → Bool
gone_after gone (Ok n) = gone
gone_after gone (Err Again) = gone
gone_after gone (Err Unwanted) = gone
gone_after gone (Err Gone) = true
gone_after gone (Err Fault) = gone
