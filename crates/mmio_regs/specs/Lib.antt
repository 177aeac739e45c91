pub mod MmioTable
pub mod Page
