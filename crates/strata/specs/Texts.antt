-- What the program prints.
use Rattle.std.specs.Prelude.{ℕ, ℤ, List, ◌++◌, codes, string_bytes}
use Rattle.std.specs.Fmt.{decimal, signed_decimal}
use Rattle.strata_words.specs.declared.version.TheConstants.{LOGIC, VERSION}
use Rattle.strata_images.specs.Texts.{numbered_lines, fault_text as images_text}
use Rattle.serve_loop.specs.declared.stream_fault.StreamFault.{StreamFault}
use Rattle.serve_loop.specs.declared.stream_fault.StreamFault.TheVariants.{BadLength, CutOff, Read, Write, Turns, Memory}
use Rattle.strata.specs.declared.faults.Fault.{Fault}
use Rattle.strata.specs.declared.faults.Fault.TheVariants.{Usage, RequestsFile, RepliesFile, BalancesFile, Bind, Accept, Images, InSession, Stopped}

-- the line that says why a stream stopped, without its end
abbrev pub stop_text : StreamFault → List ℕ
stop_text (BadLength at len) =
    codes "request at " ++ (decimal at ++ (codes ": bad length " ++ decimal len))
stop_text (CutOff at) = codes "request at " ++ (decimal at ++ codes ": cut off")
stop_text Read = codes "read fault"
stop_text Write = codes "write fault"
stop_text Turns = codes "turns used up"
stop_text Memory = codes "out of memory"

-- the line of a fault, without its end
abbrev pub fault_text : Fault → List ℕ
fault_text (Usage text) = string_bytes text
fault_text RequestsFile = codes "requests: cannot be opened"
fault_text RepliesFile = codes "replies: cannot be created"
fault_text BalancesFile = codes "balances: cannot be created"
fault_text Bind = codes "socket: cannot be bound"
fault_text Accept = codes "socket: cannot accept"
fault_text (Images fault) = images_text fault
fault_text (InSession session stop) =
    codes "session " ++ (decimal session ++ (codes ": " ++ stop_text stop))
fault_text (Stopped stop) = stop_text stop

-- the line of the version
abbrev pub version_line : List ℕ
version_line =
    codes "strata " ++ (VERSION.now ++ (codes " (logic " ++ (LOGIC.now ++ codes ")\n")))

-- the line of a node's balance: its number, and how many lookups it was given minus those taken
abbrev pub balance_line : ℕ → ℤ → List ℕ
balance_line node balance = decimal node ++ (codes " " ++ (signed_decimal balance ++ codes "\n"))

-- the lines of balances, for nodes numbered from this one on
abbrev pub balance_lines : ℕ → List ℤ → List ℕ
balance_lines = numbered_lines balance_line
