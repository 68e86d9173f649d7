-- The calls that a shelf of files in memory has noted.
-- Source: this project's own interface to files and sinks.
use Rattle.std.specs.Prelude.{List, Option, map}
use Rattle.std.specs.Option.{option_map}
use Rattle.std.specs.String.{string_bytes}
use Rattle.std.specs.declared.alloc.Global.{Global}
use Rattle.std.specs.declared.vec.Vec.{Vec}
use Rattle.bd_files.specs.Devices.{Call, loading, saving}
use Rattle.bd_files.specs.declared.noted.NotedCall.{NotedCall}
use Rattle.bd_files.specs.declared.noted.NotedCall.TheVariants.{Load, Save}

abbrev pub call_of : NotedCall → Call
call_of (Load name most) = loading (string_bytes name) most
call_of (Save name bytes) = saving (string_bytes name) bytes.items

abbrev pub calls_of : Option (Vec NotedCall Global) → Option (List Call)
calls_of = option_map (λ calls. map call_of calls.items)
