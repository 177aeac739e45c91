pub mod ByDevice
