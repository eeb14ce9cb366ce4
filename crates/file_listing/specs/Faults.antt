-- Why a text has no bodies, as text.
use Rattle.std.specs.Prelude.{ℕ, List, ◌++◌, codes}
use Rattle.std.specs.Fmt.{decimal}
use Rattle.file_listing.specs.declared.listing_fault.ListingFault.{ListingFault}
use Rattle.file_listing.specs.declared.listing_fault.ListingFault.TheVariants.{Line, Count, OutOfMemory}

abbrev pub text_fault_text : ListingFault → List ℕ
text_fault_text (Line n) = codes "line " ++ (decimal n ++ codes " is no body in hexadecimal")
text_fault_text Count = codes "there are more than 65536 bodies"
text_fault_text OutOfMemory = codes "memory ran out"
