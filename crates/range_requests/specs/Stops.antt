-- What is answered where the way through a range is refused.
use Rattle.library_model.specs.declared.replies.Reply.TheVariants as replies
use Rattle.library_steps.specs.Ranges.{fault_reply}
use Rattle.library_parts.below.parts_model.specs.declared.stop.Stop.{Stop}
use Rattle.library_parts.below.parts_model.specs.declared.stop.Stop.TheVariants as stops
use Rattle.group_bounds.specs.declared.BoundFault.{BoundFault}
use Rattle.group_bounds.specs.declared.BoundFault.TheVariants as bounds
use Rattle.range_images.specs.declared.fault.ImagesFault.{ImagesFault}
use Rattle.range_images.specs.declared.fault.ImagesFault.TheVariants as images
use Rattle.range_images.specs.Faults.{range_fault}

abbrev pub bound_stop : BoundFault → Stop
bound_stop bounds.NoMemory = stops.NoMemory
bound_stop (bounds.Straddled group) = stops.Refused (replies.Straddled group)

abbrev pub images_stop : ImagesFault → Stop
images_stop images.NoMemory = stops.NoMemory
images_stop (images.Refused fault) = stops.Refused (fault_reply (range_fault fault))
