-- Faults of a host, as its link and its log have them.
use Rattle.std.specs.Prelude.{Result, Ok, Err}
use Rattle.link_frames.specs.declared.link_fault.LinkFault.{LinkFault}
use Rattle.host_serving.specs.declared.host_fault.HostFault.{HostFault}
use Rattle.host_serving.specs.declared.host_fault.HostFault.TheVariants.{Link}

-- what a result says of the link: its fault, or that no call on it failed
abbrev pub of_link : {X : Type 0} → Result X HostFault → Result (Unit {0}) LinkFault
of_link (Err (Link fault)) = Err fault
of_link result = Ok tt
